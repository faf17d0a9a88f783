use Rattle.std.proofs.Common.{◌≡◌, ◌+◌, drop}
use Rattle.loft_sense.specs.Apply.{apply_orders}
use Rattle.loft_line_engine.specs.Batches.{applied_of, IsSound, KeepsLine}
use Rattle.loft_line_engine.proofs.batch.Batch.apply_all.Given as goal

-- what is left is applied to what the first orders made
abbrev pub invariant-loop-order : goal.invariant-loop-order
invariant-loop-order g l = record {
  sound : IsSound l.self;
  keeps : KeepsLine l.fn.self.line l.self.line;
  counted : l.steps ≡ l.fn.steps + l.order-index;
  applied : apply_orders l.heads l.scheduler (applied_of l.self) (drop l.order-index l.orders) ≡ apply_orders l.heads l.scheduler (applied_of l.fn.self) l.orders;
}
