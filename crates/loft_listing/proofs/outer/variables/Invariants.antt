use Rattle.std.proofs.Common.{◌≡◌, map, take}
use Rattle.loft_tree.specs.View.{named_of}
use Rattle.loft_listing.specs.Making.{Makes}
use Rattle.loft_listing.specs.Called.{called_variable}
use Rattle.loft_listing.proofs.outer.variables.Given as goal

-- those so far
abbrev pub invariant-loop-slot : goal.invariant-loop-slot
invariant-loop-slot l = Makes l.initial.room l.room (map named_of l.named.items ≡ map called_variable (take l.slot-index l.slots))
