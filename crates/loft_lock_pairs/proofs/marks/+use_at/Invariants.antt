use Rattle.std.proofs.Common.{length}
use Rattle.loft_lock_pairs.proofs.marks.+use_at.Given as goal

abbrev pub decreases-use_at : goal.decreases-use_at
decreases-use_at l = length l.marks.now
