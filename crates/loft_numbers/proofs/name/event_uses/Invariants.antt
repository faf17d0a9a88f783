use Rattle.std.proofs.Common.{true, ◌≡◌, ◌++◌, drop, map}
use Rattle.loft_tree.specs.View.{event_name_of}
use Rattle.loft_tree.specs.NamedView as view
use Rattle.loft_numbers.specs.Numbers.{event_uses}
use Rattle.loft_numbers.proofs.name.event_uses.Given as goal

-- those that are left come after
abbrev pub invariant-loop-name : goal.invariant-loop-name
invariant-loop-name l = record { whole : l.room.is_whole ≡ true → l.initial.room.is_whole ≡ true; rest : l.room.is_whole ≡ true → map view.event_use_of l.events.items ++ event_uses l.table l.scope (map event_name_of (drop l.name-index l.names)) ≡ event_uses l.table l.scope (map event_name_of l.names) }
