use Rattle.loft_sense.proofs.CodeLemmas.{answered_code, pending_code, answered_same_code}
use Rattle.loft_sense.proofs.code_laws.waits_set_codes_as_they_end.Goals as goal

pub returns-clause-sets : goal.returns-clause-sets
returns-clause-sets c = answered_code

pub returns-clause-pending : goal.returns-clause-pending
returns-clause-pending c = pending_code

pub returns-clause-keeps : goal.returns-clause-keeps
returns-clause-keeps c = answered_same_code
