use Rattle.std.proofs.Common.{◌≡◌, take}
use Rattle.loft_code.specs.View.{events_in}
use Rattle.loft_effect.proofs.stop.events_from.Given as goal

-- those so far
abbrev pub invariant-loop-event : goal.invariant-loop-event
invariant-loop-event l = l.events ≡ events_in (take l.event-index l.uses)
