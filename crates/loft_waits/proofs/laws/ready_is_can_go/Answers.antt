use Rattle.loft_waits.proofs.LawLemmas.{ready_is}
use Rattle.loft_waits.proofs.laws.ready_is_can_go.Goals as goal

pub returns : goal.returns
returns c = ready_is
