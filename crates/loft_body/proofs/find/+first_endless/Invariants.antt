use Rattle.std.proofs.Common.{◌≡◌, drop}
use Rattle.loft_tree.specs.NamedView.{statements_of}
use Rattle.loft_body.specs.Capped.{entry}
use Rattle.loft_budget.specs.Verdicts.{endless_in}
use Rattle.loft_body.specs.First.{first_of}
use Rattle.loft_body.proofs.find.+first_endless.Given as goal

-- nothing was found so far
abbrev pub invariant-first_endless-loop-statement : goal.invariant-first_endless-loop-statement
invariant-first_endless-loop-statement l = first_of (endless_in (entry l.table) (statements_of (drop l.statement-index l.body))) ≡ first_of (endless_in (entry l.table) (statements_of l.body))
