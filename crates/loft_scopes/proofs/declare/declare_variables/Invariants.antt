use Rattle.std.proofs.Common.{◌≡◌, ◌+◌, drop, map}
use Rattle.loft_tree.specs.View.{named_of}
use Rattle.loft_scopes.specs.Scopes.{variables}
use Rattle.loft_scopes.proofs.Declaring.{Remains}
use Rattle.loft_scopes.proofs.declare.declare_variables.Given as goal

-- the variables that are left come after
abbrev pub invariant-loop-variable : goal.invariant-loop-variable
invariant-loop-variable l = record {
  number : l.number ≡ l.from + l.variable-index;
  rest : Remains l.initial.table l.table l.initial.least l.least (variables l.«module» l.from (map named_of l.declarations)) (variables l.«module» l.number (map named_of (drop l.variable-index l.declarations)));
}
