use Rattle.std.proofs.Common.{◌≡◌, drop, map}
use Rattle.loft_tree.specs.View.{event_name_of}
use Rattle.loft_scopes.specs.Faults.{events_faults}
use Rattle.loft_scopes.specs.FirstFault.{least_of}
use Rattle.loft_name_faults.proofs.name.events.Given as goal

-- the faults of those that are left come after
abbrev pub invariant-loop-name : goal.invariant-loop-name
invariant-loop-name l = least_of l.least (events_faults l.table l.scope (map event_name_of (drop l.name-index l.names))) ≡ least_of l.initial.least (events_faults l.table l.scope (map event_name_of l.names))
