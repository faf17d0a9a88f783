use Rattle.loft_lock_rewriting.proofs.LockTwice.{texts_have_locks}
use Rattle.loft_lock_rewriting.proofs.laws.texts_have_locks.Goals as goal

pub returns : goal.returns
returns c = texts_have_locks
