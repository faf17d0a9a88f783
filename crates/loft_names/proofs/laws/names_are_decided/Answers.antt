use Rattle.loft_names.proofs.Decided.{some_answer, never_both, one_fault}
use Rattle.loft_names.proofs.laws.names_are_decided.Goals as goal

pub returns-clause-some : goal.returns-clause-some
returns-clause-some c = some_answer

pub returns-clause-never_both : goal.returns-clause-never_both
returns-clause-never_both c = never_both

pub returns-clause-one_fault : goal.returns-clause-one_fault
returns-clause-one_fault c = one_fault
