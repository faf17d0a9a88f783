-- What becomes of the instants of a block.
use Rattle.std.specs.Prelude.{◌≡◌, ℕ, List}
use Rattle.loft_base.specs.declared.ids.SchedId.{SchedId}
use Rattle.loft_base.specs.declared.options.Limits.{Limits}
use Rattle.loft_orders.specs.declared.order.Order.{Order}
use Rattle.loft_sense.specs.Machine.{Prog, empty}
use Rattle.loft_block_replay.specs.Block.{Follow, FailsAt, block_bytes}
use Rattle.loft_block_replay.specs.Made.{FailsFirstAt}
use Rattle.loft_block_replay.specs.declared.block.Outcome.{Outcome}
use Rattle.loft_block_replay.specs.declared.block.Outcome.TheVariants.{Whole, Stopped}

-- all instants may be made, on these batches alone, and the bytes are the block on them
pub record IsWhole (x : Prog) (limits : Limits) (s : SchedId) (texts : List (List ℕ)) (bytes : List ℕ) : Type 0 where
  pub batches : List (List Order)
  pub follow : Follow x limits s (empty x s) texts batches
  pub only : (bs : List (List Order)) → Follow x limits s (empty x s) texts bs → bs ≡ batches
  pub none : (n : ℕ) → FailsAt x limits s (empty x s) texts n → ⊥
  pub right : bytes ≡ block_bytes x limits s batches

abbrev pub Ends : Prog → Limits → SchedId → List (List ℕ) → Outcome → Type 0
Ends x limits s texts (Whole bytes) = IsWhole x limits s texts bytes
Ends x limits s texts (Stopped entry) = FailsFirstAt x limits s (empty x s) texts entry
