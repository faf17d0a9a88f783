use Rattle.std.proofs.Common.{◌≡◌, drop, map}
use Rattle.loft_tree.specs.View.{order_of}
use Rattle.loft_scopes.specs.Faults.{orders_faults}
use Rattle.loft_scopes.specs.FirstFault.{least_of}
use Rattle.loft_name_faults.proofs.order.orders.Given as goal

-- the faults of those that are left come after
abbrev pub invariant-loop-one : goal.invariant-loop-one
invariant-loop-one l = least_of l.least (orders_faults l.table l.scope (map order_of (drop l.one-index l.ordered))) ≡ least_of l.initial.least (orders_faults l.table l.scope (map order_of l.ordered))
