use Rattle.loft_code.proofs.Decided.{valid_or_fault, valid_excludes, one_code_fault}
use Rattle.loft_code.proofs.laws.code_is_decided.Goals as goal

pub returns-clause-some : goal.returns-clause-some
returns-clause-some c = λ code. valid_or_fault code

pub returns-clause-valid : goal.returns-clause-valid
returns-clause-valid c = λ code valid e fault. valid_excludes code e valid fault

pub returns-clause-one_fault : goal.returns-clause-one_fault
returns-clause-one_fault c = λ code d e one other. one_code_fault code d e one other
