use Rattle.std.proofs.Common.{length}
use Rattle.loft_standing.proofs.slots.+agree.Given as goal

abbrev pub decreases-agree : goal.decreases-agree
decreases-agree l = length l.slots.now
