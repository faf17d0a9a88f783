-- What a scheduler has used of its bounds, which no thread sees (docs/SEMANTICS.md, "Machine").
use Rattle.std.specs.Prelude.{ℕ, ◌+◌, ◌-◌, ◌^◌, min, nat_le, Bool, true, false, ◌||◌, List, [], ◌∷◌, length, filter}
use Rattle.loft_base.specs.declared.ids.SchedId.{SchedId}
use Rattle.loft_tree.specs.declared.heads.Heads.{Heads}
use Rattle.loft_base.specs.declared.options.Limits.{Limits}
use Rattle.loft_sense.specs.declared.limits.TheConstants.{SPENT_BYTES, SPENT_GONE}
use Rattle.loft_orders.specs.declared.note.InstantNote.{InstantNote}
use Rattle.loft_orders.specs.declared.order.Order.{Order}
use Rattle.loft_orders.specs.declared.order.Order.TheVariants.{Arrive}
use Rattle.loft_orders.specs.declared.order.Sent.{Sent}
use Rattle.loft_orders.specs.declared.order.To.{To}
use Rattle.loft_orders.specs.declared.order.To.TheVariants.{Workers}
use Rattle.loft_sense.specs.declared.tally.Tally.{Tally}
use Rattle.loft_orders.specs.Lines.{text_of, scheduler_line, instant_lines}

-- a count that stops at the end of 64 bits
abbrev pub capped : ℕ → ℕ
capped n = min (2 ^ 64 - 1) n

-- the order is a thread that leaves by `unlink`: it is sent to the workers
abbrev pub unlinks : To → Order → Bool
unlinks Workers (Arrive t) = true
unlinks to order = false

-- how many threads leave so
abbrev pub unlinked_in : List Sent → ℕ
unlinked_in sents = length (filter (λ m. unlinks m.to m.order) sents)

-- before the first instant: the block has its first line
abbrev pub first_tally : Heads → SchedId → Tally
first_tally h s = record { number = 0; bytes = capped (length (text_of (scheduler_line h s ∷ []))); gone = 0 }

-- after one more instant, on this batch and with this note
unfoldable pub tally_after : Heads → Tally → List Order → InstantNote → Tally
tally_after h t batch note = record {
  number = t.number + 1;
  bytes = capped (t.bytes + length (text_of (instant_lines h batch note)));
  gone = capped (t.gone + unlinked_in note.sent);
}

-- with so many bytes in its block a scheduler makes no further instant
abbrev pub most_bytes : Heads → ℕ
most_bytes h = SPENT_BYTES

-- with so many threads that have left by `unlink` it makes none either
abbrev pub most_gone : Heads → ℕ
most_gone h = SPENT_GONE

-- one of the three bounds is reached
abbrev pub reaches_bound : Heads → Limits → Tally → Bool
reaches_bound h limits t = nat_le limits.instants t.number || (nat_le (most_bytes h) t.bytes || nat_le (most_gone h) t.gone)
