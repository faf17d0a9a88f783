use Rattle.loft_sense.proofs.CodeLemmas.{closed_marks, closed_lowers, lowered_by_one}
use Rattle.loft_sense.proofs.code_laws.the_close_marks_and_lowers.Goals as goal

pub returns-clause-marks : goal.returns-clause-marks
returns-clause-marks c = closed_marks

pub returns-clause-number : goal.returns-clause-number
returns-clause-number c = closed_lowers

pub returns-clause-lowers : goal.returns-clause-lowers
returns-clause-lowers c = lowered_by_one
