-- What contracts see of the world: its heads and its history (docs/SEMANTICS.md, "World").
use Rattle.std.specs.Prelude.{◌≡◌, ℕ, ◌+◌, ◌<◌, List, [], ◌∷◌, ◌++◌, length, slice_index_or, unwrap_or}
use Rattle.std.specs.Ordering.{nat_cmp}
use Rattle.std.specs.BTreeMap.{BTreeMap, get}
use Rattle.loft_base.specs.declared.ids.SchedId.{SchedId}
use Rattle.loft_tree.specs.declared.heads.Heads.{Heads}
use Rattle.loft_tree.specs.NamedFits.{IsScheduler}
use Rattle.loft_orders.specs.declared.entry.Entry.{Entry}
use Rattle.loft_orders.specs.declared.entry.Entry.TheVariants as entry
use Rattle.loft_orders.specs.declared.order.Order.{Order}
use Rattle.loft_orders.specs.declared.order.Order.TheVariants.{Arrive, Ended}
use Rattle.loft_orders.specs.declared.order.Sent.{Sent}
use Rattle.loft_orders.specs.declared.order.To.{To}
use Rattle.loft_orders.specs.declared.order.To.TheVariants.{Sched}
use Rattle.loft_orders.specs.declared.thread.Thread.{Thread}
use Rattle.loft_sense.specs.Heads.{scheduler}
use Rattle.loft_history.specs.History.{orders_to, waiting, jobs, creates}
use Rattle.loft_history.specs.Legal.{IsRouted}

pub record State : Type 0 where
  pub heads : Heads
  pub history : List Entry

-- a world of these declarations without entries
abbrev pub no_entries : Heads → State
no_entries h = record { heads = h; history = [] }

-- the world with one entry more
abbrev pub with_entry : State → Entry → State
with_entry w e = record w { history = w.history ++ e ∷ [] }

-- the address is one declared scheduler
abbrev pub IsToOne : Heads → To → Type 0
IsToOne h (Sched s) = IsScheduler h s
IsToOne h to = ⊥

-- an order of a kind that clients give: a thread's leaving and its end come from threads alone
abbrev pub IsForClients : Order → Type 0
IsForClients (Arrive t) = ⊥
IsForClients (Ended t end) = ⊥
IsForClients order = Unit {0}

-- nothing waits for anybody after this history: no thread for a worker, and no order for a scheduler
pub record IsQuiet (h : Heads) (es : List Entry) : Type 0 where
  pub no_jobs : jobs es ≡ []
  pub no_orders : (s : SchedId) → IsScheduler h s → waiting h s es ≡ []

-- ---- what lies beside the history

-- what waits for each scheduler, the first of which has index k, with what is sent
abbrev pub each_with : ℕ → List Sent → List (List Order) → List (List Order)
each_with k sent [] = []
each_with k sent (orders ∷ waits) = (orders ++ orders_to (scheduler k) sent) ∷ each_with (k + 1) sent waits

-- so many lists, each that of its scheduler
pub record AreEach (of : ℕ → List Order) (count : ℕ) (waits : List (List Order)) : Type 0 where
  pub many : length waits ≡ count
  pub each : (k : ℕ) (d : List Order) → k < count → slice_index_or waits k d ≡ of k

-- the count of a client; 0 for one that isn't there
abbrev pub count_in : BTreeMap ℕ ℕ → ℕ → ℕ
count_in counts c = unwrap_or (get nat_cmp counts c) 0

-- what lies beside the history is what the history makes of it
pub record IsWorld (h : Heads) (es : List Entry) (waits : List (List Order)) (threads : List Thread) (count : ℕ → ℕ) : Type 0 where
  pub routed : IsRouted h es
  pub orders : AreEach (λ k. waiting h (scheduler k) es) (length h.schedulers) waits
  pub unlinked : threads ≡ jobs es
  pub clients : (c : ℕ) → count c ≡ creates c es

-- an entry of a scheduler or a worker that only sends
abbrev pub IsSending : Entry → Type 0
IsSending (entry.Give s sent) = Unit {0}
IsSending (entry.Post w sent) = Unit {0}
IsSending e = ⊥
