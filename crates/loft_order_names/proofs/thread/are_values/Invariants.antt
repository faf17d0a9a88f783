use Rattle.std.proofs.Common.{◌↔◌, drop}
use Rattle.loft_tree.specs.Fits.{Each}
use Rattle.loft_sense.specs.Fits.{IsValue}
use Rattle.loft_order_names.proofs.thread.are_values.Given as goal

-- the values that are left decide
abbrev pub invariant-loop-value : goal.invariant-loop-value
invariant-loop-value l = Each (IsValue l.heads) l.values ↔ Each (IsValue l.heads) (drop l.value-index l.values)
