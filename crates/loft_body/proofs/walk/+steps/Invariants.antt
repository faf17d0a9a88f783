use Rattle.std.proofs.Common.{◌≡◌, drop}
use Rattle.loft_tree.specs.NamedView.{statements_of}
use Rattle.loft_tree.specs.Resolved.{body_of}
use Rattle.loft_budget.specs.Steps.{followed, body_steps}
use Rattle.loft_body.specs.Capped.{capped_steps, AreSmall, entry}
use Rattle.loft_body.proofs.walk.+steps.Given as goal

-- what was counted and what is left make up the whole
abbrev pub invariant-body_steps-loop-statement : goal.invariant-body_steps-loop-statement
invariant-body_steps-loop-statement l =
    AreSmall l.steps
    × (capped_steps (followed l.steps (body_steps (entry l.table) (body_of (statements_of (drop l.statement-index l.body))))) ≡ capped_steps (body_steps (entry l.table) (body_of (statements_of l.body))))
