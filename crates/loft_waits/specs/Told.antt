-- What a scheduler's waiting threads are to a contract (docs/SEMANTICS.md, "Waiting lists").
use Rattle.std.specs.Prelude.{◌≡◌, ℕ, ◌+◌, ◌<◌, ◌≤◌, Bool, true, false, List, map, length, replicate, slice_index_or, Option, Some, None, option_map, is_some, ◌⊎◌}
use Rattle.loft_base.specs.declared.ids.EventId.{EventId}
use Rattle.loft_base.specs.declared.ids.ThreadId.{ThreadId}
use Rattle.loft_board.specs.Board.{Board}
use Rattle.loft_orders.specs.declared.thread.Wait.{Wait}
use Rattle.loft_orders.specs.declared.thread.Wait.TheVariants as wait
use Rattle.loft_sense.specs.CanGo.{is_over}
use Rattle.loft_sense.specs.Instant.{closed_wait}

-- by the number of the event: where it is present in this instant, how many values it has
abbrev pub Counts : Type 0
Counts = List (Option ℕ)

-- the wait at each position, what was told of events in this instant, the threads that are told as ended, and how many instants
-- have closed
pub record Told : Type 0 where
  pub waits : List (Option Wait)
  pub counts : Counts
  pub ended : List ThreadId
  pub closes : ℕ

-- what was told of an event
abbrev pub count_in : Counts → EventId → Option ℕ
count_in counts e = slice_index_or counts e.0 None

-- so many events, none of them present
abbrev pub no_counts : ℕ → Counts
no_counts n = replicate n None

-- what a board tells: how many values each event has that is present
abbrev pub counts_of : Board → Counts
counts_of board = map (option_map length) board

abbrev pub nobody : Option Wait
nobody = None

-- the wait at a position, where a thread waits there
abbrev pub wait_at : Told → ℕ → Option Wait
wait_at t p = slice_index_or t.waits p None

-- nobody waits at a position from there on
abbrev pub IsFreeFrom : Told → ℕ → Type 0
IsFreeFrom t n = (i : ℕ) → n ≤ i → wait_at t i ≡ None

-- somebody waits, and what he waits for is there
abbrev pub is_ready : Counts → List ThreadId → Option Wait → Bool
is_ready counts ended None = false
is_ready counts ended (Some w) = is_over w (count_in counts) ended

-- the thread at a position can go
abbrev pub ready_at : Told → ℕ → Bool
ready_at t p = is_ready t.counts t.ended (wait_at t p)

-- a value that did not come in its instant
abbrev pub is_next : Wait → Bool
is_next wait.Next = true
is_next w = false

-- the wait at a position is for a value that did not come
abbrev pub is_late : Option Wait → Bool
is_late None = false
is_late (Some w) = is_next w

-- the wait ends by itself: at once, by its number, or as its value doesn't come
abbrev pub ends_alone : Wait → Bool
ends_alone wait.New = true
ends_alone (wait.Coop left) = true
ends_alone (wait.Events events left) = is_some left
ends_alone (wait.Index event at) = true
ends_alone wait.Next = true
ends_alone (wait.Join thread left) = is_some left
ends_alone wait.Halt = false

-- somebody waits, and the wait ends by itself
abbrev pub is_alone : Option Wait → Bool
is_alone None = false
is_alone (Some w) = ends_alone w

-- the instant closes: each number is lowered, a value has not come, and no event is present
abbrev pub closed : Told → Told
closed t = record { waits = map (option_map closed_wait) t.waits; counts = no_counts (length t.counts); ended = t.ended; closes = t.closes + 1 }

-- nobody from the first position on and before the second can go
abbrev pub NobodyIn : Told → ℕ → ℕ → Type 0
NobodyIn t a b = (i : ℕ) → a ≤ i → i < b → ready_at t i ≡ false

-- nobody from a position on can go
abbrev pub NobodyFrom : Told → ℕ → Type 0
NobodyFrom t a = (i : ℕ) → a ≤ i → ready_at t i ≡ false

-- q is the first position after p whose thread can go, or, where there is none, the first at all
pub record IsNextAt (t : Told) (p q : ℕ) : Type 0 where
  pub within : q < length t.waits
  pub ready : ready_at t q ≡ true
  pub first : ((p < q) × NobodyIn t (p + 1) q) ⊎ (NobodyFrom t (p + 1) × NobodyIn t 0 q)

-- the next position after p whose thread can go, in a circle; none where nobody can
abbrev pub IsNext : Told → ℕ → Option ℕ → Type 0
IsNext t p None = NobodyFrom t 0
IsNext t p (Some q) = IsNextAt t p q
