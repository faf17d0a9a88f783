use Rattle.loft_sense.proofs.AroundLemmas.{run_follows}
use Rattle.loft_sense.proofs.run_laws.runs_keep_what_is_declared.Goals as goal

pub returns-clause-place : goal.returns-clause-place
returns-clause-place c = λ x t around n. (run_follows x t around n).place

pub returns-clause-events : goal.returns-clause-events
returns-clause-events c = λ x t around n. (run_follows x t around n).events

pub returns-clause-shared : goal.returns-clause-shared
returns-clause-shared c = λ x t around n. (run_follows x t around n).shared
