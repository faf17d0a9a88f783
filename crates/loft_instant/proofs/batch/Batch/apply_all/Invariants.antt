use Rattle.std.proofs.Common.{◌≡◌, drop}
use Rattle.loft_sense.specs.Apply.{apply_orders}
use Rattle.loft_instant.specs.Batches.{applied_of}
use Rattle.loft_instant.proofs.batch.Batch.apply_all.Given as goal

-- what is left is applied to what the first orders made
abbrev pub invariant-loop-order : goal.invariant-loop-order
invariant-loop-order l = apply_orders l.heads l.scheduler (applied_of l.self) (drop l.order-index l.orders) ≡ apply_orders l.heads l.scheduler (applied_of l.fn.self) l.orders
