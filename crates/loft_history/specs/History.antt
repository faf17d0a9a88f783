-- Histories: the entries of all actors, in the order in which they were made (docs/SEMANTICS.md, "History").
use Rattle.std.specs.Prelude.{◌≡◌, ℕ, ◌+◌, ◌<◌, nat_lt, ◌==◌, Bool, true, false, ◌||◌, ◌&&◌, not, List, [], ◌∷◌, ◌++◌, length, drop, Option, Some, None, Result, Ok, Err, if◌then◌else◌, IsTrue}
use Rattle.std.specs.List.{fold, flat_map}
use Rattle.loft_base.specs.declared.ids.SchedId.{SchedId}
use Rattle.loft_base.specs.declared.ids.Maker.TheVariants.{Source}
use Rattle.loft_tree.specs.declared.heads.Start.{Start}
use Rattle.loft_tree.specs.declared.heads.Heads.{Heads}
use Rattle.loft_orders.specs.declared.order.Order.{Order}
use Rattle.loft_orders.specs.declared.order.Order.TheVariants.{Create, Arrive, Ended}
use Rattle.loft_orders.specs.declared.thread.Thread.{Thread}
use Rattle.loft_orders.specs.declared.order.To.{To}
use Rattle.loft_orders.specs.declared.order.To.TheVariants.{Sched, Others, All, Workers}
use Rattle.loft_orders.specs.declared.order.Sent.{Sent}
use Rattle.loft_orders.specs.declared.note.InstantNote.{InstantNote}
use Rattle.loft_orders.specs.declared.entry.Entry.{Entry}
use Rattle.loft_orders.specs.declared.entry.Entry.TheVariants.{Take, Give, Pick, Post, Client}
use Rattle.loft_base.specs.declared.options.Limits.{Limits}
use Rattle.loft_base.specs.declared.options.RunOptions.{RunOptions}
use Rattle.loft_sense.specs.Heads.{same_scheduler}
use Rattle.loft_sense.specs.Machine.{Prog, heads, Mach}
use Rattle.loft_sense.specs.Instant.{Replayed, replay}
use Rattle.loft_sense.specs.Rest.{is_resting, is_spent}
use Rattle.loft_sense.specs.Async.{async}
use Rattle.loft_history.specs.Clients.{outside_of}

-- who makes the next entry, and of which kind
pub data Choice : Type 0 where
  TakeBy : (s : SchedId) → Choice
  GiveBy : (s : SchedId) → Choice
  PickBy : (w : ℕ) → Choice
  PostBy : (w : ℕ) → Choice
  ClientBy : (c : ℕ) → Choice

abbrev pub choice_of : Entry → Choice
choice_of (Take s batch) = TakeBy s
choice_of (Give s sent) = GiveBy s
choice_of (Pick w job) = PickBy w
choice_of (Post w sent) = PostBy w
choice_of (Client c sent) = ClientBy c

-- what an entry sends: a Take and a Pick send nothing
abbrev pub sends : Entry → List Sent
sends (Give s sent) = sent
sends (Post w sent) = sent ∷ []
sends (Client c sent) = sent ∷ []
sends e = []

-- all that entries send, in order
abbrev pub sent_in : List Entry → List Sent
sent_in es = flat_map sends es

-- ---- what entries leave

-- the batches that a scheduler took, in order
abbrev pub log : SchedId → List Entry → List (List Order)
log s [] = []
log s (Take q batch ∷ es) = if same_scheduler s q then batch ∷ log s es else log s es
log s (e ∷ es) = log s es

-- What follows folds the entries: a step says what one entry leaves of what was there before it.

-- a scheduler's Take begins its instant, and its Give ends it
abbrev pub instant_step : SchedId → Bool → Entry → Bool
instant_step s was (Take q batch) = same_scheduler s q || was
instant_step s was (Give q sent) = not (same_scheduler s q) && was
instant_step s was e = was

-- whether a scheduler is in an instant after these entries, where it was or wasn't before them
abbrev pub in_instant : SchedId → Bool → List Entry → Bool
in_instant s was es = fold (instant_step s) was es

-- the scheduler's last entry is a Take
abbrev pub is_open : SchedId → List Entry → Bool
is_open s h = in_instant s false h

abbrev pub is_addressed : SchedId → To → Bool
is_addressed s (Sched q) = same_scheduler s q
is_addressed s (Others q) = not (same_scheduler s q)
is_addressed s All = true
is_addressed s Workers = false

-- the orders that are addressed to a scheduler
abbrev pub orders_to : SchedId → List Sent → List Order
orders_to s [] = []
orders_to s (m ∷ ms) = if is_addressed s m.to then m.order ∷ orders_to s ms else orders_to s ms

-- the creates of a scheduler's starts, where the first start is number k
abbrev pub starts_from : SchedId → ℕ → List Start → List Order
starts_from s k [] = []
starts_from s k (t ∷ ts) =
    if same_scheduler s t.scheduler
    then Create (record { maker = Source; seq = k }) t.module t.arguments ∷ starts_from s (k + 1) ts
    else starts_from s (k + 1) ts

abbrev pub starts_of : Heads → SchedId → List Order
starts_of h s = starts_from s 0 h.starts

-- a scheduler's Take leaves nothing that waits for it, every other entry adds what it sends
abbrev pub waiting_step : SchedId → List Order → Entry → List Order
waiting_step s before (Take q batch) = if same_scheduler s q then [] else before
waiting_step s before (Pick w job) = before
waiting_step s before e = before ++ orders_to s (sends e)

-- what waits for a scheduler after these entries, where this waited before them
abbrev pub waiting_after : SchedId → List Order → List Entry → List Order
waiting_after s before es = fold (waiting_step s) before es

-- what waits for a scheduler: at first the starts of the source
abbrev pub waiting : Heads → SchedId → List Entry → List Order
waiting h s es = waiting_after s (starts_of h s) es

-- ---- workers and clients

-- a thread that an order sends to the workers, before others that wait for them
abbrev pub job_before : To → Order → List Thread → List Thread
job_before Workers (Arrive t) jobs = t ∷ jobs
job_before to order jobs = jobs

-- the threads that these orders send to the workers
abbrev pub jobs_sent : List Sent → List Thread
jobs_sent [] = []
jobs_sent (m ∷ ms) = job_before m.to m.order (jobs_sent ms)

-- a Pick takes the first thread that waits for a worker, every other entry adds what it sends
abbrev pub jobs_step : List Thread → Entry → List Thread
jobs_step before (Take s batch) = before
jobs_step before (Pick w job) = drop 1 before
jobs_step before e = before ++ jobs_sent (sends e)

-- the threads that wait for a worker after these entries, where these waited before them
abbrev pub jobs_after : List Thread → List Entry → List Thread
jobs_after before es = fold jobs_step before es

-- the threads that wait for a worker, the one that has waited longest first
abbrev pub jobs : List Entry → List Thread
jobs es = jobs_after [] es

-- the last order of an unlinked block: its thread is linked again, or has ended
abbrev pub ends_block : Order → Bool
ends_block (Arrive t) = true
ends_block (Ended t end) = true
ends_block order = false

-- a worker's Pick takes a job in hand, and its Post of the job's last order lays it down
abbrev pub busy_step : ℕ → Bool → Entry → Bool
busy_step w had (Pick v job) = w == v || had
busy_step w had (Post v sent) = if w == v then not (ends_block sent.order) else had
busy_step w had e = had

-- whether a worker has a job in hand after these entries, where it had one or not before them
abbrev pub in_hand : ℕ → Bool → List Entry → Bool
in_hand w had es = fold (busy_step w) had es

-- the worker's last entry is a Pick, or a Post that isn't the last of its job
abbrev pub is_busy : ℕ → List Entry → Bool
is_busy w h = in_hand w false h

-- a worker's Pick leaves all that the job sends, its Post all but the first
abbrev pub unposted_step : Prog → RunOptions → ℕ → List Sent → Entry → List Sent
unposted_step x o w left (Pick v job) = if w == v then async x job o.limits.block else left
unposted_step x o w left (Post v sent) = if w == v then drop 1 left else left
unposted_step x o w left e = left

-- what a worker has still to post after these entries, where this was left before them
abbrev pub unposted_after : Prog → RunOptions → ℕ → List Sent → List Entry → List Sent
unposted_after x o w left es = fold (unposted_step x o w) left es

-- what a worker's job in hand has still to post
abbrev pub unposted : Prog → RunOptions → ℕ → List Entry → List Sent
unposted x o w h = unposted_after x o w [] h

-- a client's order is the first of what it has still to give
abbrev pub unsent_step : ℕ → List Sent → Entry → List Sent
unsent_step c left (Client d sent) = if c == d then drop 1 left else left
unsent_step c left e = left

-- what a client has still to give after these entries, where this was left before them
abbrev pub unsent_after : ℕ → List Sent → List Entry → List Sent
unsent_after c left es = fold (unsent_step c) left es

-- what a client of the source has still to give: all but as many as it has given
abbrev pub unsent : Heads → ℕ → List Entry → List Sent
unsent h c es = unsent_after c (outside_of h c) es

abbrev pub is_create : Order → Bool
is_create (Create t m arguments) = true
is_create order = false

-- a client's create is one more
abbrev pub creates_step : ℕ → ℕ → Entry → ℕ
creates_step c before (Client d sent) = if c == d && is_create sent.order then before + 1 else before
creates_step c before e = before

-- how many creates a client has given after these entries, where it had given so many before them
abbrev pub creates_after : ℕ → ℕ → List Entry → ℕ
creates_after c before es = fold (creates_step c) before es

abbrev pub creates : ℕ → List Entry → ℕ
creates c es = creates_after c 0 es

-- ---- schedulers

-- a scheduler's machine and notes, by its own log
abbrev pub replayed : Prog → Limits → SchedId → List Entry → Replayed
replayed x limits s h = replay x limits s (log s h)

abbrev pub is_empty : {A : Type 0} → List A → Bool
is_empty xs = length xs == 0

-- a scheduler makes no turn where its bounds are used up, nor where it rests and nothing waits for it
abbrev pub has_turn : Prog → Limits → Mach → List Order → Bool
has_turn x limits m orders = not (is_spent x limits m) && not (is_resting m && is_empty orders)

abbrev pub sent_last : List InstantNote → List Sent
sent_last [] = []
sent_last (n ∷ []) = n.sent
sent_last (n ∷ m ∷ ns) = sent_last (m ∷ ns)

-- the entry of the first of these, where there is one
abbrev pub entry_of_first : {A : Type 0} → (A → Entry) → List A → Option Entry
entry_of_first make [] = None
entry_of_first make (a ∷ others) = Some (make a)

-- a worker with nothing left to post picks the first of the jobs
abbrev pub pick_of : ℕ → List Sent → List Thread → Option Entry
pick_of w [] waits = entry_of_first (Pick w) waits
pick_of w (m ∷ left) waits = None

-- the entry that a choice makes after a history, where it is allowed
abbrev pub entry_of : Prog → RunOptions → List Entry → Choice → Option Entry
entry_of x o h (TakeBy s) =
    if nat_lt s.0 (length (heads x).schedulers) && not (is_open s h) && has_turn x o.limits (replayed x o.limits s h).machine (waiting (heads x) s h)
    then Some (Take s (waiting (heads x) s h))
    else None
entry_of x o h (GiveBy s) =
    if nat_lt s.0 (length (heads x).schedulers) && is_open s h
    then Some (Give s (sent_last (replayed x o.limits s h).notes))
    else None
entry_of x o h (PickBy w) = if nat_lt w o.workers then pick_of w (unposted x o w h) (jobs h) else None
entry_of x o h (PostBy w) = if nat_lt w o.workers then entry_of_first (Post w) (unposted x o w h) else None
entry_of x o h (ClientBy c) = entry_of_first (Client c) (unsent (heads x) c h)

-- the history goes on by this entry, or the next choice isn't allowed: the answer is its number, from 1
abbrev pub with_entry : List Entry → Option Entry → (List Entry → Result (List Entry) ℕ) → Result (List Entry) ℕ
with_entry h None go_on = Err (length h + 1)
with_entry h (Some e) go_on = go_on (h ++ e ∷ [])

-- the history that these choices make after h
abbrev pub hist_on : Prog → RunOptions → List Choice → List Entry → Result (List Entry) ℕ
hist_on x o [] h = Ok h
hist_on x o (c ∷ cs) h = with_entry h (entry_of x o h c) (hist_on x o cs)

-- the history of a list of choices, or the number of the first that isn't allowed
abbrev pub hist : Prog → RunOptions → List Choice → Result (List Entry) ℕ
hist x o choices = hist_on x o choices []

-- a scheduler has no turn to make
abbrev pub has_finished : Prog → RunOptions → List Entry → SchedId → Bool
has_finished x o h s = not (is_open s h) && not (has_turn x o.limits (replayed x o.limits s h).machine (waiting (heads x) s h))

-- Nothing is left to do, or the bounds are used up: each client of the source has given all its orders, no job waits, no
-- worker has anything left to post, and no scheduler has a turn to make.
pub record HasEnded (x : Prog) (o : RunOptions) (h : List Entry) : Type 0 where
  pub clients : (c : ℕ) → c < length (heads x).clients → unsent (heads x) c h ≡ []
  pub no_jobs : jobs h ≡ []
  pub workers : (w : ℕ) → w < o.workers → unposted x o w h ≡ []
  pub schedulers : (s : SchedId) → s.0 < length (heads x).schedulers → IsTrue (has_finished x o h s)
