use Rattle.loft_parse.proofs.TextLaws.{one_program, one_fault, never_both, program_or_fault}
use Rattle.loft_parse.proofs.law.texts_are_decided.Goals as goal

pub returns-clause-one : goal.returns-clause-one
returns-clause-one c = one_program

pub returns-clause-one_fault : goal.returns-clause-one_fault
returns-clause-one_fault c = one_fault

pub returns-clause-never_both : goal.returns-clause-never_both
returns-clause-never_both c = never_both

pub returns-clause-some : goal.returns-clause-some
returns-clause-some c = program_or_fault
