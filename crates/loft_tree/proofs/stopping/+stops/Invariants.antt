use Rattle.std.proofs.Common.{◌≡◌, ◌+◌, drop}
use Rattle.loft_tree.specs.NamedView.{statements_of}
use Rattle.loft_tree.specs.Stops.{body_stops}
use Rattle.loft_tree.proofs.stopping.+stops.Given as goal

-- what was counted and what is left make up the whole
abbrev pub invariant-body_stops-loop-statement : goal.invariant-body_stops-loop-statement
invariant-body_stops-loop-statement l = l.count + body_stops (statements_of (drop l.statement-index l.body)) ≡ body_stops (statements_of l.body)
