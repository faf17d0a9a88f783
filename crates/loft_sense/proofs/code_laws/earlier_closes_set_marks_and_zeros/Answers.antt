use Rattle.loft_sense.proofs.CloseLemmas.{marks_are_set, zeros_are_set, fits_new}
use Rattle.loft_sense.proofs.code_laws.earlier_closes_set_marks_and_zeros.Goals as goal

pub returns-clause-marked : goal.returns-clause-marked
returns-clause-marked c = marks_are_set

pub returns-clause-ran_out : goal.returns-clause-ran_out
returns-clause-ran_out c = zeros_are_set

pub returns-clause-fits : goal.returns-clause-fits
returns-clause-fits c = fits_new
