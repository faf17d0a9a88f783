-- Where the threads of a history are (docs/SEMANTICS.md, "One place").
use Rattle.std.specs.Prelude.{◌≡◌, ◌⊎◌, ℕ, zero, suc, ◌+◌, ◌<◌, ◌≤◌, ◌==◌, Bool, true, false, List, [], ◌∷◌, ◌++◌, length, if◌then◌else◌}
use Rattle.std.specs.List.{fold}
use Rattle.loft_base.specs.declared.ids.SchedId.{SchedId}
use Rattle.loft_base.specs.declared.ids.ThreadId.{ThreadId}
use Rattle.loft_base.specs.declared.ids.Maker.TheVariants.{Source}
use Rattle.loft_tree.specs.declared.heads.Start.{Start}
use Rattle.loft_orders.specs.declared.entry.Entry.{Entry}
use Rattle.loft_orders.specs.declared.entry.Entry.TheVariants.{Take, Give, Pick, Post}
use Rattle.loft_base.specs.declared.options.RunOptions.{RunOptions}
use Rattle.loft_orders.specs.declared.order.Order.{Order}
use Rattle.loft_orders.specs.declared.thread.Thread.{Thread}
use Rattle.loft_sense.specs.Heads.{scheduler, same_scheduler}
use Rattle.loft_sense.specs.Machine.{Prog, heads, Mach}
use Rattle.loft_sense.specs.CanGo.{same_thread}
use Rattle.loft_sense.specs.Instant.{replay}
use Rattle.loft_history.specs.History.{sent_in, log, is_open, waiting, jobs, ends_block, is_busy}
use Rattle.loft_conservation.specs.Counts.{one, made_in, ended_in, brought_in, threads_in, linked_in}
use Rattle.loft_history_laws.specs.Batches.{joined}

-- ---- schedulers and workers between two entries

-- the batches that a scheduler took and whose instants it has given, and the one of its open take
pub record Desk : Type 0 where
  pub given : List (List Order)
  pub hand : List (List Order)

-- a scheduler's Take puts its batch in hand, and its Give puts this to those before
abbrev pub desk_step : SchedId → Desk → Entry → Desk
desk_step s d (Take q batch) = if same_scheduler s q then record { given = d.given; hand = batch ∷ [] } else d
desk_step s d (Give q sent) = if same_scheduler s q then record { given = d.given ++ d.hand; hand = [] } else d
desk_step s d e = d

-- a scheduler's desk after these entries, where it was so before them
abbrev pub desk_after : SchedId → Desk → List Entry → Desk
desk_after s d es = fold (desk_step s) d es

abbrev pub desk : SchedId → List Entry → Desk
desk s es = desk_after s (record { given = []; hand = [] }) es

-- a scheduler's machine as after its last give
abbrev pub settled : Prog → RunOptions → SchedId → List Entry → Mach
settled x o s es = (replay x o.limits s (desk s es).given).machine

-- a worker's Pick takes a job in hand, until it posts its last order
abbrev pub hand_step : ℕ → List Thread → Entry → List Thread
hand_step w had (Pick v job) = if w == v then job ∷ [] else had
hand_step w had (Post v sent) = if w == v then (if ends_block sent.order then [] else had) else had
hand_step w had e = had

-- the job that a worker has in hand after these entries, where this was so before them
abbrev pub hand_after : ℕ → List Thread → List Entry → List Thread
hand_after w had es = fold (hand_step w) had es

abbrev pub hand_of : ℕ → List Entry → List Thread
hand_of w es = hand_after w [] es

-- one where it is so, and none where it isn't
abbrev pub IsOneIf : {A : Type 0} → Bool → List A → Type 0
IsOneIf false xs = xs ≡ []
IsOneIf {A} true xs = (x : A) × (xs ≡ x ∷ [])

-- The batches of a scheduler, with the one of its open take, are its log, and a worker has one job in hand where it is busy.
pub record HandsAgree (es : List Entry) : Type 0 where
  pub logs : (s : SchedId) → log s es ≡ (desk s es).given ++ (desk s es).hand
  pub instants : (s : SchedId) → IsOneIf (is_open s es) (desk s es).hand
  pub busy : (w : ℕ) → IsOneIf (is_busy w es) (hand_of w es)

-- ---- how often a thread is somewhere

-- among the threads that are linked to scheduler number s
abbrev pub linked_at : Prog → RunOptions → List Entry → ThreadId → ℕ → ℕ
linked_at x o es t s = linked_in t (settled x o (scheduler s) es).linked

-- in the creates and arrives that wait for it, and in the batch of its open take
abbrev pub arriving_at : Prog → List Entry → ThreadId → ℕ → ℕ
arriving_at x es t s = brought_in t (waiting (heads x) (scheduler s) es) + brought_in t (joined (desk (scheduler s) es).hand)

-- in the hand of worker number w
abbrev pub in_hand_of : List Entry → ThreadId → ℕ → ℕ
in_hand_of es t w = threads_in t (hand_of w es)

-- a place of a thread
pub data ThreadPlace : Type 0 where
  LinkedAt : (s : ℕ) → ThreadPlace
  -- it will be linked there by the scheduler's next instant, or the running one
  ArrivesAt : (s : ℕ) → ThreadPlace
  -- it is a job that waits for a worker
  Waits : ThreadPlace
  InHandOf : (w : ℕ) → ThreadPlace
  -- its end has been told
  HasEnded : ThreadPlace

-- of so many schedulers and workers
abbrev pub IsPlace : ℕ → ℕ → ThreadPlace → Type 0
IsPlace schedulers workers (LinkedAt s) = s < schedulers
IsPlace schedulers workers (ArrivesAt s) = s < schedulers
IsPlace schedulers workers Waits = Unit {0}
IsPlace schedulers workers (InHandOf w) = w < workers
IsPlace schedulers workers HasEnded = Unit {0}

abbrev pub times : Prog → RunOptions → List Entry → ThreadId → ThreadPlace → ℕ
times x o es t (LinkedAt s) = linked_at x o es t s
times x o es t (ArrivesAt s) = arriving_at x es t s
times x o es t Waits = threads_in t (jobs es)
times x o es t (InHandOf w) = in_hand_of es t w
times x o es t HasEnded = ended_in t (sent_in es)

-- the sum over the first numbers
abbrev pub total : ℕ → (ℕ → ℕ) → ℕ
total zero f = 0
total (suc n) f = total n f + f n

-- over all places
abbrev pub everywhere : Prog → RunOptions → List Entry → ThreadId → ℕ
everywhere x o es t =
    total (length (heads x).schedulers) (linked_at x o es t) + total (length (heads x).schedulers) (arriving_at x es t)
    + threads_in t (jobs es) + total o.workers (in_hand_of es t) + ended_in t (sent_in es)

-- ---- threads that were made

-- how often these starts, of which the first is number k, make the thread
abbrev pub started_from : ThreadId → ℕ → List Start → ℕ
started_from t k [] = 0
started_from t k (u ∷ us) = one (same_thread t (record { maker = Source; seq = k })) + started_from t (k + 1) us

-- how often it was started, or its create stands in an entry
abbrev pub made_by_all : Prog → List Entry → ThreadId → ℕ
made_by_all x es t = started_from t 0 (heads x).starts + made_in t (sent_in es)

-- ---- one place

-- no thread is made twice, and it is as often somewhere as it was made
abbrev pub OnePlace : Prog → RunOptions → List Entry → Type 0
OnePlace x o es = (t : ThreadId) → (made_by_all x es t ≤ 1) × (everywhere x o es t ≡ made_by_all x es t)

-- a place of the program's schedulers and the run's workers
abbrev pub IsPlaceOf : Prog → RunOptions → ThreadPlace → Type 0
IsPlaceOf x o p = IsPlace (length (heads x).schedulers) o.workers p

-- in words: a thread that was made is in one place, once, and in no other
abbrev pub InOne : Prog → RunOptions → List Entry → Type 0
InOne x o es =
    (t : ThreadId) → 0 < made_by_all x es t
    → (p : ThreadPlace) × IsPlaceOf x o p × (times x o es t p ≡ 1) × ((q : ThreadPlace) → IsPlaceOf x o q → (q ≡ p) ⊎ (times x o es t q ≡ 0))

-- one that nothing made is nowhere
abbrev pub Nowhere : Prog → RunOptions → List Entry → Type 0
Nowhere x o es = (t : ThreadId) → made_by_all x es t ≡ 0 → (q : ThreadPlace) → IsPlaceOf x o q → times x o es t q ≡ 0

-- a thread is linked to at most one scheduler
abbrev pub LinkedOnce : Prog → RunOptions → List Entry → Type 0
LinkedOnce x o es =
    (t : ThreadId) (s q : ℕ) → s < length (heads x).schedulers → q < length (heads x).schedulers → 0 < linked_at x o es t s → 0 < linked_at x o es t q → s ≡ q
