use Rattle.loft_ft.proofs.KeptLemmas.{own_at_close, stand_at_close}
use Rattle.loft_ft.proofs.laws.accepted_calls_stand_at_close.Goals as goal

pub returns-clause-own : goal.returns-clause-own
returns-clause-own c = own_at_close

pub returns-clause-stand : goal.returns-clause-stand
returns-clause-stand c = stand_at_close
