use Rattle.std.proofs.Common.{◌≡◌, map, take}
use Rattle.loft_tree.specs.View.{argument_of}
use Rattle.loft_listing.specs.Making.{Makes}
use Rattle.loft_listing.specs.Called.{called_argument}
use Rattle.loft_listing.proofs.outer.arguments.Given as goal

-- those so far
abbrev pub invariant-loop-value : goal.invariant-loop-value
invariant-loop-value l = Makes l.initial.room l.room (map argument_of l.named.items ≡ map (called_argument l.heads) (take l.value-index l.values))
