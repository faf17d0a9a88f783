use Rattle.std.proofs.Common.{◌≡◌}
use Rattle.loft_tree.specs.NamedView.{statements_of}
use Rattle.loft_budget.specs.Verdicts.{runs_in}
use Rattle.loft_bound.specs.Found.{called_to}
use Rattle.loft_bound.proofs.reaching.row.Given as goal

abbrev pub invariant-loop-number : goal.invariant-loop-number
invariant-loop-number l = l.called.items ≡ called_to (runs_in (statements_of l.body)) l.number
