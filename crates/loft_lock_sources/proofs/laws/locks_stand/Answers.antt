use Rattle.loft_lock_sources.proofs.LockLemmas.{locks_stand}
use Rattle.loft_lock_sources.proofs.laws.locks_stand.Goals as goal

pub returns : goal.returns
returns c = locks_stand
