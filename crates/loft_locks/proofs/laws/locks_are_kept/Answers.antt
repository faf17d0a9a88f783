use Rattle.loft_locks.proofs.LockHistory.{locks_kept}
use Rattle.loft_locks.proofs.laws.locks_are_kept.Goals as goal

pub returns : goal.returns
returns c = locks_kept
