use Rattle.loft_sense.proofs.AroundLemmas.{run_follows}
use Rattle.loft_sense.proofs.run_laws.runs_make_few_entries.Goals as goal

pub returns-clause-few : goal.returns-clause-few
returns-clause-few c = λ x t around n. (run_follows x t around n).few

pub returns-clause-acts : goal.returns-clause-acts
returns-clause-acts c = λ x t around n. (run_follows x t around n).acts

pub returns-clause-creates : goal.returns-clause-creates
returns-clause-creates c = λ x t around n. (run_follows x t around n).made
