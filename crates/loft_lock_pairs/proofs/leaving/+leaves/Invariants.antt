use Rattle.std.proofs.Common.{◌≡◌, drop}
use Rattle.loft_tree.specs.NamedView.{statements_of}
use Rattle.loft_tree.specs.Resolved.{body_of}
use Rattle.loft_lock_expansion.specs.Going.{body_goes}
use Rattle.loft_lock_pairs.specs.Leaving.{marked_in}
use Rattle.loft_lock_pairs.proofs.leaving.+leaves.Given as goal

-- the statements that are left decide
abbrev pub invariant-body_leaves-loop-statement : goal.invariant-body_leaves-loop-statement
invariant-body_leaves-loop-statement l = body_goes (marked_in l.away) (body_of (statements_of (drop l.statement-index l.body))) ≡ body_goes (marked_in l.away) (body_of (statements_of l.body))
