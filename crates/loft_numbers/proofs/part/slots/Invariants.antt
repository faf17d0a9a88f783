use Rattle.std.proofs.Common.{true, ◌≡◌, ◌++◌, drop, map}
use Rattle.loft_tree.specs.View.{named_of}
use Rattle.loft_numbers.specs.Numbers.{slots_of}
use Rattle.loft_numbers.proofs.part.slots.Given as goal

-- those that are left come after
abbrev pub invariant-loop-variable : goal.invariant-loop-variable
invariant-loop-variable l = record { whole : l.room.is_whole ≡ true → l.initial.room.is_whole ≡ true; rest : l.room.is_whole ≡ true → l.all ++ slots_of (map named_of (drop l.variable-index l.variables)) ≡ slots_of (map named_of l.variables) }
