use Rattle.std.proofs.Common.{length}
use Rattle.loft_waits.proofs.places.+list_events.Given as goal

abbrev pub decreases-list_events : goal.decreases-list_events
decreases-list_events l = length l.events.now
