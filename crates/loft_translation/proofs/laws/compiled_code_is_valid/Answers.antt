use Rattle.loft_translation.proofs.ProgramLemmas.{code_fits, code_valid}
use Rattle.loft_translation.proofs.laws.compiled_code_is_valid.Goals as goal

pub returns : goal.returns
returns c = record { fits = code_fits; valid = code_valid }
