use Rattle.loft_parse.proofs.LocalLaws.{same_fault, no_program}
use Rattle.loft_parse.proofs.law.faults_are_local.Goals as goal

pub returns-clause-same_fault : goal.returns-clause-same_fault
returns-clause-same_fault c = same_fault

pub returns-clause-no_program : goal.returns-clause-no_program
returns-clause-no_program c = no_program
