use Rattle.std.proofs.Common.{◌≡◌, drop}
use Rattle.loft_tree.specs.NamedView.{statements_of}
use Rattle.loft_budget.specs.Verdicts.{runs_in}
use Rattle.loft_body.specs.First.{has_mark, first_marked}
use Rattle.loft_body.proofs.find.+first_run.Given as goal

-- nothing was found so far
abbrev pub invariant-first_run-loop-statement : goal.invariant-first_run-loop-statement
invariant-first_run-loop-statement l =
    first_marked (has_mark l.marks l.wanted l.also) (runs_in (statements_of (drop l.statement-index l.body))) ≡ first_marked (has_mark l.marks l.wanted l.also) (runs_in (statements_of l.body))
