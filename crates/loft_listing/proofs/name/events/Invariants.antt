use Rattle.std.proofs.Common.{◌≡◌, map, take}
use Rattle.loft_tree.specs.View.{event_name_of}
use Rattle.loft_code.specs.View.{events_in}
use Rattle.loft_listing.specs.Making.{Makes}
use Rattle.loft_listing.specs.Called.{called_event}
use Rattle.loft_listing.proofs.name.events.Given as goal

-- the names so far
abbrev pub invariant-loop-one : goal.invariant-loop-one
invariant-loop-one l = Makes l.initial.room l.room (map event_name_of l.names.items ≡ map (called_event l.heads) (events_in (take l.one-index l.named)))
