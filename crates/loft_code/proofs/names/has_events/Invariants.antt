use Rattle.std.proofs.Common.{◌≡◌, drop}
use Rattle.loft_code.specs.View.{events_in}
use Rattle.loft_code.specs.Names.{has_events}
use Rattle.loft_code.proofs.names.has_events.Given as goal

-- the events that are left decide
abbrev pub invariant-loop-event : goal.invariant-loop-event
invariant-loop-event l = has_events l.heads (events_in (drop l.event-index l.events)) ≡ has_events l.heads (events_in l.events)
