use Rattle.loft_lock_rewriting.proofs.ExampleLemmas.{example_is, crowded_is, marks_are}
use Rattle.loft_lock_rewriting.proofs.laws.forms_are_replaced.Goals as goal

pub returns-clause-example : goal.returns-clause-example
returns-clause-example c = example_is

pub returns-clause-crowded : goal.returns-clause-crowded
returns-clause-crowded c = crowded_is

pub returns-clause-marks : goal.returns-clause-marks
returns-clause-marks c = marks_are
