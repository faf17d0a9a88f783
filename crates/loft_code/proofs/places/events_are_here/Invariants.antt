use Rattle.std.proofs.Common.{◌≡◌, drop}
use Rattle.loft_code.specs.View.{events_in}
use Rattle.loft_code.specs.Places.{events_are_here}
use Rattle.loft_code.proofs.places.events_are_here.Given as goal

-- the events that are left decide
abbrev pub invariant-loop-event : goal.invariant-loop-event
invariant-loop-event l = events_are_here l.heads l.here (events_in (drop l.event-index l.events)) ≡ events_are_here l.heads l.here (events_in l.events)
