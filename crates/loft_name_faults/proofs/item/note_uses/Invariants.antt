use Rattle.std.proofs.Common.{◌≡◌, ◌≤◌, drop}
use Rattle.loft_tree.specs.View.{source_of}
use Rattle.loft_scopes.specs.Faults.{uses_from}
use Rattle.loft_scopes.specs.FirstFault.{least_of}
use Rattle.loft_name_faults.proofs.item.note_uses.Given as goal

-- the faults of those that are left come after
abbrev pub invariant-loop-one : goal.invariant-loop-one
invariant-loop-one l = record {
  few : l.number ≤ l.one-index;
  rest : least_of l.least (uses_from l.table l.number (source_of (drop l.one-index l.declared))) ≡ least_of l.initial.least (uses_from l.table 0 (source_of l.declared));
}
