use Rattle.loft_history_laws.proofs.BatchLemmas.{sent_since, sent_at_all}
use Rattle.loft_history_laws.proofs.laws.what_waits_was_sent_since.Goals as goal

pub returns-clause-taken : goal.returns-clause-taken
returns-clause-taken c = sent_since

pub returns-clause-starts : goal.returns-clause-starts
returns-clause-starts c = sent_at_all
