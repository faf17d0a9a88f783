use Rattle.loft_locks.proofs.RefusalLemmas.{pairs_stand}
use Rattle.loft_locks.proofs.laws.checked_pairs_stand.Goals as goal

pub returns : goal.returns
returns c = pairs_stand
