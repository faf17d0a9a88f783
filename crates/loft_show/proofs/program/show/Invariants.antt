use Rattle.std.proofs.Common.{true, ◌≡◌, ◌++◌, drop}
use Rattle.loft_tree.specs.View.{source_of}
use Rattle.loft_show.specs.Canon.{Canon}
use Rattle.loft_show.proofs.program.show.Given as goal

-- the declarations that are left come after
abbrev pub invariant-loop-item : goal.invariant-loop-item
invariant-loop-item l = l.out.is_whole ≡ true → l.out.text.items ++ Canon (source_of (drop l.item-index l.item-items)) ≡ Canon (source_of l.item-items)
