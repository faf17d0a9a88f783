-- The replay of one scheduler's block of a report, by the batches that it prints (docs/REPORT.md, "Replay").
use Rattle.std.specs.Prelude.{◌≡◌, ℕ, ◌+◌, true, List, [], ◌∷◌, ◌⊎◌}
use Rattle.loft_base.specs.declared.ids.SchedId.{SchedId}
use Rattle.loft_base.specs.declared.options.Limits.{Limits}
use Rattle.loft_orders.specs.declared.order.Order.{Order}
use Rattle.loft_orders.specs.Lines.{text_of}
use Rattle.loft_sense.specs.Machine.{Prog, heads, Mach}
use Rattle.loft_sense.specs.Instant.{instant, replay}
use Rattle.loft_history.specs.History.{has_turn}
use Rattle.loft_history.specs.Report.{block_lines}
use Rattle.loft_block_replay.specs.Batch.{order_lines, AreGiven}

-- The scheduler may make the instant of this text next: its lines say this batch, each order of which the scheduler may be
-- given, and it makes a turn on the batch (docs/SEMANTICS.md, "Rest").
pub record IsNext (x : Prog) (limits : Limits) (s : SchedId) (m : Mach) (text : List ℕ) (batch : List Order) : Type 0 where
  pub given : AreGiven x s (order_lines text) batch
  pub turn : has_turn x limits m batch ≡ true

-- the scheduler may make the instants of these texts, from this state on, and these are their batches
abbrev pub Follow : Prog → Limits → SchedId → Mach → List (List ℕ) → List (List Order) → Type 0
Follow x limits s m [] [] = Unit {0}
Follow x limits s m [] (b ∷ bs) = ⊥
Follow x limits s m (text ∷ texts) [] = ⊥
Follow x limits s m (text ∷ texts) (b ∷ bs) = IsNext x limits s m text b × Follow x limits s (instant x limits m b).machine texts bs

-- the instant with this number, from 1, is the first that the scheduler may not make
abbrev pub FailsAt : Prog → Limits → SchedId → Mach → List (List ℕ) → ℕ → Type 0
FailsAt x limits s m [] n = ⊥
FailsAt x limits s m (text ∷ texts) n =
    ((n ≡ 1) × ((b : List Order) → IsNext x limits s m text b → ⊥))
    ⊎ ((b : List Order) × (k : ℕ) × IsNext x limits s m text b × FailsAt x limits s (instant x limits m b).machine texts k × (n ≡ k + 1))

-- the block of the scheduler on these batches
abbrev pub block_bytes : Prog → Limits → SchedId → List (List Order) → List ℕ
block_bytes x limits s batches = text_of (block_lines (heads x) s batches (replay x limits s batches))
