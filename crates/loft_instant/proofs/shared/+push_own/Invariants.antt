use Rattle.std.proofs.Common.{length}
use Rattle.loft_instant.proofs.shared.+push_own.Given as goal

abbrev pub decreases-push_own : goal.decreases-push_own
decreases-push_own l = length l.shared.now
