use Rattle.loft_sense.specs.Tree.{tree}
use Rattle.loft_sense.specs.Code.{code}
use Rattle.loft_block.proofs.Preceding.{run_preceded, going_alike, sent_preceded}
use Rattle.loft_block.proofs.laws.what_was_done_before_changes_nothing.Goals as goal

pub returns-clause-run : goal.returns-clause-run
returns-clause-run c = λ x t around n acts. run_preceded acts x t around n

pub returns-clause-tree : goal.returns-clause-tree
returns-clause-tree c = λ p n b rs acts. going_alike acts (tree p) n b rs

pub returns-clause-code : goal.returns-clause-code
returns-clause-code c = λ a n b rs acts. going_alike acts (code a) n b rs

pub returns-clause-sent : goal.returns-clause-sent
returns-clause-sent c = sent_preceded
