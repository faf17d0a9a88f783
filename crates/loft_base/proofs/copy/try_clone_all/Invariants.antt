use Rattle.std.proofs.Common.{◌≡◌, take}
use Rattle.loft_base.proofs.copy.try_clone_all.Given as goal

-- those so far
abbrev pub invariant-loop-item : goal.invariant-loop-item
invariant-loop-item g l = l.copy.items ≡ take l.item-index l.items
