use Rattle.std.proofs.Common.{drop, length, ◌-◌}
use Rattle.loft_tree.specs.View.{source_of}
use Rattle.loft_scopes.specs.Counts.{HasRoom}
use Rattle.loft_scopes.specs.Scopes.{declared, declared_from}
use Rattle.loft_scopes.proofs.Declaring.{Remains}
use Rattle.loft_scopes.proofs.declare.declare_all.Given as goal

-- what is left is declared after, and can be numbered
abbrev pub invariant-loop-item : goal.invariant-loop-item
invariant-loop-item l = record {
  room : HasRoom l.sofar (length l.items - l.item-index);
  rest : Remains l.initial.table l.table l.initial.least l.least (declared (source_of l.items)) (declared_from l.sofar (source_of (drop l.item-index l.items)));
}
