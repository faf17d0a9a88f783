use Rattle.std.proofs.Common.{true, ◌≡◌, ◌++◌, ◌≤◌, drop}
use Rattle.loft_tree.specs.View.{source_of}
use Rattle.loft_numbers.specs.Numbers.{signatures_in}
use Rattle.loft_numbers.proofs.head.signatures.Given as goal

-- those that are left come after
abbrev pub invariant-loop-item : goal.invariant-loop-item
invariant-loop-item l = record { few : l.number ≤ l.item-index; whole : l.room.is_whole ≡ true → l.initial.room.is_whole ≡ true; rest : l.room.is_whole ≡ true → l.all ++ signatures_in l.table l.number (source_of (drop l.item-index l.items)) ≡ signatures_in l.table 0 (source_of l.items) }
