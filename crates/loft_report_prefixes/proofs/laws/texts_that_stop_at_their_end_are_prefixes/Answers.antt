use Rattle.loft_report_prefixes.proofs.Prefixes.{prefix, within}
use Rattle.loft_report_prefixes.proofs.laws.texts_that_stop_at_their_end_are_prefixes.Goals as goal

pub returns-clause-prefix : goal.returns-clause-prefix
returns-clause-prefix c = prefix

pub returns-clause-within : goal.returns-clause-within
returns-clause-within c = within
