use Rattle.std.proofs.Common.{length}
use Rattle.loft_standing.proofs.thread.+outer_stand.Given as goal

abbrev pub decreases-outer_stand : goal.decreases-outer_stand
decreases-outer_stand l = length l.frames.now
