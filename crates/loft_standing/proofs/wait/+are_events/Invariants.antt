use Rattle.std.proofs.Common.{length}
use Rattle.loft_standing.proofs.wait.+are_events.Given as goal

abbrev pub decreases-are_events : goal.decreases-are_events
decreases-are_events l = length l.uses.now
