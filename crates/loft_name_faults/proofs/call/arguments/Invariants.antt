use Rattle.std.proofs.Common.{◌≡◌, drop, map}
use Rattle.loft_tree.specs.View.{expression_of, named_of}
use Rattle.loft_scopes.specs.Scopes.{kinds_of}
use Rattle.loft_scopes.specs.Faults.{arguments_faults}
use Rattle.loft_scopes.specs.FirstFault.{least_of}
use Rattle.loft_name_faults.proofs.call.arguments.Given as goal

-- the faults of those that are left come after
abbrev pub invariant-loop-i : goal.invariant-loop-i
invariant-loop-i l =
    least_of l.least (arguments_faults l.table l.scope (drop l.i (kinds_of (map named_of l.parameters))) (map expression_of (drop l.i l.values)))
    ≡ least_of l.initial.least (arguments_faults l.table l.scope (kinds_of (map named_of l.parameters)) (map expression_of l.values))
