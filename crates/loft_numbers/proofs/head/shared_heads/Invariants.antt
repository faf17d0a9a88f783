use Rattle.std.proofs.Common.{true, ◌≡◌, ◌++◌, drop}
use Rattle.loft_tree.specs.View.{source_of}
use Rattle.loft_numbers.specs.Numbers.{shared_in}
use Rattle.loft_numbers.proofs.head.shared_heads.Given as goal

-- those that are left come after
abbrev pub invariant-loop-item : goal.invariant-loop-item
invariant-loop-item l = record { whole : l.room.is_whole ≡ true → l.initial.room.is_whole ≡ true; rest : l.room.is_whole ≡ true → l.all ++ shared_in l.table (source_of (drop l.item-index l.items)) ≡ shared_in l.table (source_of l.items) }
