-- The orders of the lines that were read so far.
use Rattle.std.specs.Prelude.{◌≡◌, ℕ, List, ◌++◌}
use Rattle.loft_base.specs.declared.ids.SchedId.{SchedId}
use Rattle.loft_orders.specs.declared.order.Order.{Order}
use Rattle.loft_sense.specs.Machine.{Prog}
use Rattle.loft_block_replay.specs.Batch.{AreGiven}

-- These orders were read; what is given of the lines that are left is given of all lines, and the other way round.
pub record Read (x : Prog) (s : SchedId) (all left : List (List ℕ)) (orders : List Order) : Type 0 where
  pub down : (os : List Order) → AreGiven x s left os → AreGiven x s all (orders ++ os)
  pub up : (batch : List Order) → AreGiven x s all batch → (os : List Order) × (batch ≡ orders ++ os) × AreGiven x s left os
