use Rattle.loft_report_prefixes.proofs.Prefixes.{goes_on}
use Rattle.loft_report_prefixes.proofs.Longer.{proper}
use Rattle.loft_report_prefixes.proofs.laws.prefixes_of_reports_stop_at_their_end.Goals as goal

pub returns-clause-goes_on : goal.returns-clause-goes_on
returns-clause-goes_on c = goes_on

pub returns-clause-proper : goal.returns-clause-proper
returns-clause-proper c = proper
