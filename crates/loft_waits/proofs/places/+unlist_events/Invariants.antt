use Rattle.std.proofs.Common.{length}
use Rattle.loft_waits.proofs.places.+unlist_events.Given as goal

abbrev pub decreases-unlist_events : goal.decreases-unlist_events
decreases-unlist_events l = length l.events.now
