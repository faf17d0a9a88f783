use Rattle.std.proofs.Common.{true, ◌≡◌, ◌++◌, drop}
use Rattle.loft_tree.specs.View.{source_of}
use Rattle.loft_numbers.specs.Numbers.{schedulers_in}
use Rattle.loft_numbers.proofs.head.schedulers.Given as goal

-- those that are left come after
abbrev pub invariant-loop-item : goal.invariant-loop-item
invariant-loop-item l = record { whole : l.room.is_whole ≡ true → l.initial.room.is_whole ≡ true; rest : l.room.is_whole ≡ true → l.all ++ schedulers_in (source_of (drop l.item-index l.items)) ≡ schedulers_in (source_of l.items) }
