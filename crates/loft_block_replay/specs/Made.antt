-- The instants of a block so far.
use Rattle.std.specs.Prelude.{◌≡◌, ℕ, true, List, [], ◌∷◌}
use Rattle.loft_base.specs.declared.ids.SchedId.{SchedId}
use Rattle.loft_base.specs.declared.options.Limits.{Limits}
use Rattle.loft_orders.specs.declared.order.Order.{Order}
use Rattle.loft_orders.specs.declared.note.InstantNote.{InstantNote}
use Rattle.loft_orders.specs.Lines.{text_of, instant_lines}
use Rattle.loft_sense.specs.Machine.{Prog, heads, Mach}
use Rattle.loft_sense.specs.Instant.{instant}
use Rattle.loft_history.specs.Report.{instants_lines}
use Rattle.loft_history.specs.History.{has_turn}
use Rattle.loft_value_text.specs.declared.line.LineBuffer.{LineBuffer}
use Rattle.loft_value_text.specs.Buffer.{Adds}
use Rattle.loft_block_replay.specs.Block.{IsNext, Follow, FailsAt}

-- the state after instants on these batches, and their notes
abbrev pub machine_on : Prog → Limits → Mach → List (List Order) → Mach
machine_on x limits m [] = m
machine_on x limits m (b ∷ bs) = machine_on x limits (instant x limits m b).machine bs

abbrev pub notes_on : Prog → Limits → Mach → List (List Order) → List InstantNote
notes_on x limits m [] = []
notes_on x limits m (b ∷ bs) = (instant x limits m b).note ∷ notes_on x limits (instant x limits m b).machine bs

-- the text of those instants
abbrev pub text_on : Prog → Limits → Mach → List (List Order) → List ℕ
text_on x limits m bs = text_of (instants_lines (heads x) bs (notes_on x limits m bs))

-- the scheduler makes a turn on the batch, which leads to this state, and its instant was written
pub record Turned (x : Prog) (limits : Limits) (m after : Mach) (batch : List Order) (begun written : LineBuffer) : Type 0 where
  pub turn : has_turn x limits m batch ≡ true
  pub leads : after ≡ (instant x limits m batch).machine
  pub text : Adds begun written (text_of (instant_lines (heads x) batch (instant x limits m batch).note))

-- one batch is that of the next instant, and the instant on it was made and written
pub record Made (x : Prog) (limits : Limits) (s : SchedId) (m after : Mach) (text : List ℕ) (begun written : LineBuffer) : Type 0 where
  pub batch : List Order
  pub next : IsNext x limits s m text batch
  pub only : (b : List Order) → IsNext x limits s m text b → b ≡ batch
  pub leads : after ≡ (instant x limits m batch).machine
  pub adds : Adds begun written (text_of (instant_lines (heads x) batch (instant x limits m batch).note))

-- all instants may be made, on these batches alone, and were made and written
pub record AllMade (x : Prog) (limits : Limits) (s : SchedId) (m last : Mach) (texts : List (List ℕ)) (begun written : LineBuffer) : Type 0 where
  pub batches : List (List Order)
  pub follow : Follow x limits s m texts batches
  pub only : (bs : List (List Order)) → Follow x limits s m texts bs → bs ≡ batches
  pub none : (n : ℕ) → FailsAt x limits s m texts n → ⊥
  pub leads : last ≡ machine_on x limits m batches
  pub adds : Adds begun written (text_on x limits m batches)

-- the instant with this number is the first that may not be made
pub record FailsFirstAt (x : Prog) (limits : Limits) (s : SchedId) (m : Mach) (texts : List (List ℕ)) (number : ℕ) : Type 0 where
  pub fails : FailsAt x limits s m texts number
  pub only : (n : ℕ) → FailsAt x limits s m texts n → n ≡ number
  pub never : (bs : List (List Order)) → Follow x limits s m texts bs → ⊥

-- an engine is of the same program, scheduler and limits
pub record KeepsRules {E : Type 0} (program : E → Prog) (scheduler : E → SchedId) (limits : E → Limits) (old new : E) : Type 0 where
  pub same_program : program new ≡ program old
  pub same_scheduler : scheduler new ≡ scheduler old
  pub same_limits : limits new ≡ limits old
