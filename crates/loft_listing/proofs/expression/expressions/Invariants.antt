use Rattle.std.proofs.Common.{◌≡◌, map, take}
use Rattle.loft_tree.specs.View.{expression_of}
use Rattle.loft_code.specs.View.{exps_in}
use Rattle.loft_listing.specs.Making.{Makes}
use Rattle.loft_listing.specs.Called.{called_expression}
use Rattle.loft_listing.proofs.expression.expressions.Given as goal

-- the expressions so far
abbrev pub invariant-loop-e : goal.invariant-loop-e
invariant-loop-e l = Makes l.initial.room l.room (map expression_of l.named.items ≡ map (called_expression l.heads l.module) (exps_in (take l.e-index l.es)))
