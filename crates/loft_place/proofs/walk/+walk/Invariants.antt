use Rattle.std.proofs.Common.{drop}
use Rattle.loft_tree.specs.NamedView.{statements_of}
use Rattle.loft_place.proofs.Rests.{BodyLeft}
use Rattle.loft_place.proofs.walk.+walk.Given as goal

-- the statements that are left decide
abbrev pub invariant-walk_body-loop-statement : goal.invariant-walk_body-loop-statement
invariant-walk_body-loop-statement l =
    BodyLeft l.heads l.fn.begin (statements_of l.body) l.here (statements_of (drop l.statement-index l.body))
