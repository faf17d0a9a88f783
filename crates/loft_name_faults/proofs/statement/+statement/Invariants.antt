use Rattle.std.proofs.Common.{◌≡◌, drop}
use Rattle.loft_tree.specs.View.{statements_of}
use Rattle.loft_scopes.specs.Faults.{body_faults}
use Rattle.loft_scopes.specs.FirstFault.{least_of}
use Rattle.loft_name_faults.proofs.statement.+statement.Given as goal

-- the faults of those that are left come after
abbrev pub invariant-body-loop-s : goal.invariant-body-loop-s
invariant-body-loop-s l = least_of l.least (body_faults l.table l.scope (statements_of (drop l.s-index l.statements))) ≡ least_of l.initial.least (body_faults l.table l.scope (statements_of l.statements))
