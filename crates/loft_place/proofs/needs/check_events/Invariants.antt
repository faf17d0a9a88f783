use Rattle.std.proofs.Common.{drop, map}
use Rattle.loft_tree.specs.NamedView.{event_use_of}
use Rattle.loft_place.specs.Links.{events_needs}
use Rattle.loft_place.proofs.Rests.{NeedsLeft}
use Rattle.loft_place.proofs.needs.check_events.Given as goal

-- the events that are left decide
abbrev pub invariant-loop-event : goal.invariant-loop-event
invariant-loop-event l =
    NeedsLeft (events_needs l.heads l.here (map event_use_of (drop l.event-index l.events))) (events_needs l.heads l.here (map event_use_of l.events))
