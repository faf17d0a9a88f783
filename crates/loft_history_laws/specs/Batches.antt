-- Each order stands in one batch, or is left over, and each job in one Pick, or it waits (docs/SEMANTICS.md, "One batch").
use Rattle.std.specs.Prelude.{◌≡◌, ◌⊎◌, ℕ, List, [], ◌∷◌, ◌++◌}
use Rattle.std.specs.List.{flat_map}
use Rattle.loft_base.specs.declared.ids.SchedId.{SchedId}
use Rattle.loft_tree.specs.declared.heads.Heads.{Heads}
use Rattle.loft_orders.specs.declared.order.Order.{Order}
use Rattle.loft_orders.specs.declared.entry.Entry.{Entry}
use Rattle.loft_orders.specs.declared.entry.Entry.TheVariants.{Take, Pick}
use Rattle.loft_orders.specs.declared.thread.Thread.{Thread}
use Rattle.loft_history.specs.History.{sends, sent_in, log, orders_to, starts_of, waiting, jobs_sent, jobs}

-- batches, one after the other
abbrev pub joined : List (List Order) → List Order
joined [] = []
joined (b ∷ bs) = b ++ joined bs

-- The batches of a scheduler and then what is left over for it are its starts and then all that was sent to it, in order.
abbrev pub InBatches : Heads → List Entry → Type 0
InBatches h es = (s : SchedId) → joined (log s es) ++ waiting h s es ≡ starts_of h s ++ orders_to s (sent_in es)

-- What an entry sends to s stands in the first batch that s takes after it, following what waited before it.
pub record InBatch (h : Heads) (before : List Entry) (e : Entry) (after : List Entry) (s : SchedId) : Type 0 where
  pub until : List Entry
  pub batch : List Order
  pub rest : List Entry
  pub splits : after ≡ until ++ Take s batch ∷ rest
  pub first : log s until ≡ []
  pub is : batch ≡ waiting h s before ++ (orders_to s (sends e) ++ orders_to s (sent_in until))

-- Where s takes no batch after it, it is left over in the same way.
pub record LeftOver (h : Heads) (es before : List Entry) (e : Entry) (after : List Entry) (s : SchedId) : Type 0 where
  pub none : log s after ≡ []
  pub is : waiting h s es ≡ waiting h s before ++ (orders_to s (sends e) ++ orders_to s (sent_in after))

-- so it is for each entry but the takes of s
abbrev pub InFirst : Heads → List Entry → Type 0
InFirst h es =
    (before : List Entry) (e : Entry) (after : List Entry) (s : SchedId) → es ≡ before ++ e ∷ after → log s (e ∷ []) ≡ []
    → InBatch h before e after s ⊎ LeftOver h es before e after s

-- ---- jobs

-- the thread that an entry picks
abbrev pub picks : Entry → List Thread
picks (Pick w job) = job ∷ []
picks e = []

-- all threads that workers picked, in order
abbrev pub picked_in : List Entry → List Thread
picked_in es = flat_map picks es

-- The threads that were picked and then those that still wait are all that were sent to the workers, in order.
abbrev pub InPicks : List Entry → Type 0
InPicks es = picked_in es ++ jobs es ≡ jobs_sent (sent_in es)

-- A thread is taken by the Pick after it before which just those ahead of it were picked.
pub record InPick (ahead : List Thread) (t : Thread) (after : List Entry) : Type 0 where
  pub until : List Entry
  pub worker : ℕ
  pub rest : List Entry
  pub splits : after ≡ until ++ Pick worker t ∷ rest
  pub first : picked_in until ≡ ahead

-- Where no Pick takes it, it waits, and so do those ahead of it that weren't picked.
pub record StillWaits (es : List Entry) (ahead : List Thread) (t : Thread) (after : List Entry) : Type 0 where
  pub front : List Thread
  pub back : List Thread
  pub picked : picked_in after ++ front ≡ ahead
  pub is : jobs es ≡ front ++ t ∷ back

-- So it is for each thread that an entry sends to the workers, ahead of which are those that waited before the entry and those
-- that the entry sent before it.
abbrev pub InFirstPick : List Entry → Type 0
InFirstPick es =
    (before : List Entry) (e : Entry) (after : List Entry) (earlier : List Thread) (t : Thread) (later : List Thread) → es ≡ before ++ e ∷ after
    → jobs_sent (sends e) ≡ earlier ++ t ∷ later → InPick (jobs before ++ earlier) t after ⊎ StillWaits es (jobs before ++ earlier) t after
