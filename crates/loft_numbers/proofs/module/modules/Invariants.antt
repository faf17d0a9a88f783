use Rattle.std.proofs.Common.{◌≡◌, ◌++◌, ◌≤◌, drop, map}
use Rattle.loft_tree.specs.View.{source_of}
use Rattle.loft_numbers.specs.Numbers.{modules_in}
use Rattle.loft_tree.specs.ProgramView.{module_of}
use Rattle.loft_numbers.proofs.module.modules.Given as goal

-- those that are left come after
abbrev pub invariant-loop-item : goal.invariant-loop-item
invariant-loop-item l = record { few : l.number ≤ l.item-index; rest : map module_of l.all.items ++ modules_in l.table l.number (source_of (drop l.item-index l.items)) ≡ modules_in l.table 0 (source_of l.items) }
