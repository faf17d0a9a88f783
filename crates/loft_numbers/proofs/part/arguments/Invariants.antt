use Rattle.std.proofs.Common.{true, ◌≡◌, ◌++◌, drop, map}
use Rattle.loft_tree.specs.View.{argument_of}
use Rattle.loft_numbers.specs.Numbers.{arguments_of}
use Rattle.loft_numbers.proofs.part.arguments.Given as goal

-- those that are left come after
abbrev pub invariant-loop-value : goal.invariant-loop-value
invariant-loop-value l = record { whole : l.room.is_whole ≡ true → l.initial.room.is_whole ≡ true; rest : l.room.is_whole ≡ true → l.all ++ arguments_of l.table l.scope (map argument_of (drop l.value-index l.values)) ≡ arguments_of l.table l.scope (map argument_of l.values) }
