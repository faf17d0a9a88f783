-- In each history of a well-formed program, what waits for a scheduler fits there, and the threads of each scheduler stand.
use Rattle.std.proofs.Common.{◌≡◌, ℕ, List, [], ◌∷◌, ◌++◌, length, refl, ◌∙◌}
use Rattle.std.specs.Prelude.{All}
use Rattle.loft_base.specs.declared.ids.SchedId.{SchedId}
use Rattle.loft_tree.specs.declared.heads.Place.TheVariants.{Sched, Unlinked}
use Rattle.loft_tree.specs.Fits.{Each}
use Rattle.loft_tree.specs.NamedFits.{IsScheduler}
use Rattle.loft_orders.specs.declared.entry.Entry.{Entry}
use Rattle.loft_orders.specs.declared.entry.Entry.TheVariants.{Take, Give, Pick, Post, Client}
use Rattle.loft_base.specs.declared.options.Limits.{Limits}
use Rattle.loft_base.specs.declared.options.RunOptions.{RunOptions}
use Rattle.loft_orders.specs.declared.note.InstantNote.{InstantNote}
use Rattle.loft_orders.specs.declared.order.Order.{Order}
use Rattle.loft_orders.specs.declared.order.Order.TheVariants as order
use Rattle.loft_orders.specs.declared.order.To.{To}
use Rattle.loft_orders.specs.declared.order.To.TheVariants as to
use Rattle.loft_orders.specs.declared.order.Sent.{Sent}
use Rattle.loft_orders.specs.declared.thread.Thread.{Thread}
use Rattle.loft_sense.specs.Machine.{Prog, heads, empty}
use Rattle.loft_sense.specs.Fits.{Fits}
use Rattle.loft_sense.specs.Instant.{Replayed, one_more, replay_on, replay}
use Rattle.loft_history.specs.History.{sends, sent_in, starts_of, waiting_after, waiting, job_before, jobs_sent, jobs_after, jobs, unposted, unsent, replayed}
use Rattle.loft_history.specs.Legal.{IsLegal, IsCallersEntry, ComesNext}
use Rattle.loft_sense.proofs.InstantLemmas.{instant_shared}
use Rattle.loft_history.proofs.LegalEntries.{legal_exactly}
use Rattle.loft_soundness.specs.Points.{HasValues}
use Rattle.loft_soundness.specs.Machines.{ThreadFits, MachFits, FitsAt, SentFits}
use Rattle.loft_soundness.specs.WellFormed.{IsWellFormed}
use Rattle.loft_soundness.proofs.ListLemmas.{each_map, all_of, each_of}
use Rattle.loft_soundness.proofs.OrderLemmas.{orders_fit, starts_fit, one_fits, outside_fits}
use Rattle.loft_soundness.proofs.InstantLemmas.{instant_fits, empty_fits, async_fits}
use Rattle.loft_soundness.proofs.HistoryWalk.{Claims, Routes, AreKept, NoteHolds, BatchHolds, ReplayedHolds, HistoryHolds, ComesSo, sent_wait, sent_work, begun_holds, one_more_holds, replay_holds, replayed_holds, waits_hold, jobs_hold, picked_holds, entry_holds, starts_hold, history_holds}

-- orders fit where they wait, threads stand, and what is sent fits as it is addressed
abbrev pub fit_claims : Prog → Claims
fit_claims x = record { order = Fits x; job = ThreadFits x Unlinked; machine = MachFits x; sent = SentFits x; known = λ m. Unit {0} }

nothing_known : (ms : List Sent) → Each (λ (m : Sent). Unit {0}) ms
nothing_known [] = tt
nothing_known (m ∷ ms) = (tt, nothing_known ms)

-- ---- what was sent, and waits

job_fits : (x : Prog) (to : To) (order : Order) (waits : List Thread) → FitsAt x to order → Each (ThreadFits x Unlinked) waits → Each (ThreadFits x Unlinked) (job_before to order waits)
job_fits x (to.Sched s) order waits f g = g
job_fits x (to.Others s) order waits f g = g
job_fits x to.All order waits f g = g
job_fits x to.Workers (order.Create t m arguments) waits f g = g
job_fits x to.Workers (order.Arrive t) waits f g = (f.1, g)
job_fits x to.Workers (order.Stop t) waits f g = g
job_fits x to.Workers (order.Suspend t) waits f g = g
job_fits x to.Workers (order.Resume t) waits f g = g
job_fits x to.Workers (order.Broadcast e v) waits f g = g
job_fits x to.Workers (order.Ended t end) waits f g = g

pub sent_stand : (x : Prog) (ms : List Sent) → Each (SentFits x) ms → Each (ThreadFits x Unlinked) (jobs_sent ms)
sent_stand x [] f = tt
sent_stand x (m ∷ ms) f = job_fits x m.to m.order (jobs_sent ms) f.0 (sent_stand x ms f.1)

fit_routes : (x : Prog) → Routes x (fit_claims x)
fit_routes x = record { orders = λ s declared ms f known. orders_fit x s declared ms f; jobs = λ ms f known. sent_stand x ms f }

pub sent_waits : (x : Prog) (s : SchedId) → IsScheduler (heads x) s → (before : List Order) (es : List Entry) → Each (Fits x s) before → Each (SentFits x) (sent_in es) → Each (Fits x s) (waiting_after s before es)
sent_waits x s declared before es f g = sent_wait x (fit_claims x) (fit_routes x) s declared before es f g (nothing_known (sent_in es))

pub sent_jobs : (x : Prog) (before : List Thread) (es : List Entry) → Each (ThreadFits x Unlinked) before → Each (SentFits x) (sent_in es) → Each (ThreadFits x Unlinked) (jobs_after before es)
sent_jobs x before es f g = sent_work x (fit_claims x) (fit_routes x) before es f g (nothing_known (sent_in es))

pub called_fit : (x : Prog) (h : List Entry) (e : Entry) → IsCallersEntry x h e → Each (SentFits x) (sends e)
called_fit x h (Take s batch) call = absurd call
called_fit x h (Give s sent) call = absurd call
called_fit x h (Pick w job) call = absurd call
called_fit x h (Post w sent) call = absurd call
called_fit x h (Client d sent) call = (one_fits x sent.to sent.order call.1.1, tt)

-- ---- histories of a program

module _ (x : Prog) (well : IsWellFormed x) (o : RunOptions) where
  abbrev pub BatchFits : SchedId → List Order → Type 0
  BatchFits s batch = BatchHolds x o (fit_claims x) s batch

  -- all that the instant sent fits
  abbrev pub NoteFits : InstantNote → Type 0
  NoteFits note = NoteHolds x o (fit_claims x) note

  -- a machine of this scheduler that fits, and notes that do
  abbrev pub ReplayedFits : SchedId → Replayed → Type 0
  ReplayedFits s r = ReplayedHolds x o (fit_claims x) s r

  -- What was sent fits as it is addressed, and each batch that a scheduler took fits there. So does what workers have still to
  -- post and clients to give.
  abbrev pub HistoryFits : List Entry → Type 0
  HistoryFits h = HistoryHolds x o (fit_claims x) h

  fits_kept : AreKept x o (fit_claims x)
  fits_kept = record {
    begins = empty_fits x;
    machines = λ m batch f g. (instant_fits x well o.limits m batch f g).machine;
    notes = λ m batch f g. (instant_fits x well o.limits m batch f g).sents;
    blocks = λ t f. async_fits x well t o.limits.block f;
    starts = λ s. each_of (Fits x s) (starts_of (heads x) s) (starts_fit x well s);
    clients = outside_fits x well;
    routes = fit_routes x;
  }

  pub begun_fits : (s : SchedId) → IsScheduler (heads x) s → ReplayedFits s (record { machine = empty x s; notes = [] })
  begun_fits s declared = begun_holds x o (fit_claims x) fits_kept s declared

  pub one_more_fits : (s : SchedId) (r : Replayed) (batch : List Order) → ReplayedFits s r → BatchFits s batch → ReplayedFits s (one_more x o.limits r batch)
  one_more_fits s r batch f g = one_more_holds x o (fit_claims x) fits_kept s r batch f g

  pub replay_fits : (s : SchedId) (r : Replayed) (batches : List (List Order)) → ReplayedFits s r → Each (BatchFits s) batches → ReplayedFits s (replay_on x o.limits r batches)
  replay_fits s r batches f g = replay_holds x o (fit_claims x) fits_kept s r batches f g

  waits_fit : (h : List Entry) (s : SchedId) → HistoryFits h → IsScheduler (heads x) s → BatchFits s (waiting (heads x) s h)
  waits_fit h s f declared = waits_hold x o (fit_claims x) fits_kept h s f declared

  jobs_fit : (h : List Entry) → HistoryFits h → Each (ThreadFits x Unlinked) (jobs h)
  jobs_fit h f = jobs_hold x o (fit_claims x) fits_kept h f

  replayed_fits : (h : List Entry) (s : SchedId) → HistoryFits h → IsScheduler (heads x) s → ReplayedFits s (replayed x o.limits s h)
  replayed_fits h s f declared = replayed_holds x o (fit_claims x) fits_kept h s f declared

  -- a thread that is picked stands unlinked
  pub picked_fits : (h : List Entry) (w : ℕ) (job : Thread) → HistoryFits h → ComesNext x o h (Pick w job) → ThreadFits x Unlinked job
  picked_fits h w job f next = picked_holds x o (fit_claims x) fits_kept h w job f next

  comes_so : (h : List Entry) (e : Entry) → ComesNext x o h e → ComesSo x o (fit_claims x) h e
  comes_so h e next = record { next = next; call = called_fit x h e; known = nothing_known (sends e) }

  -- each entry that may come next keeps this
  pub entry_fits : (h : List Entry) (e : Entry) → HistoryFits h → ComesNext x o h e → HistoryFits (h ++ e ∷ [])
  entry_fits h e f next = entry_holds x o (fit_claims x) fits_kept h e f (comes_so h e next)

  -- at first nothing was sent
  pub starts_wait : HistoryFits []
  starts_wait = starts_hold x o (fit_claims x) fits_kept

  -- ---- as the law says it

  pub history_fits : (es : List Entry) → IsLegal x o es → HistoryFits es
  history_fits es legal = history_holds x o (fit_claims x) fits_kept es (λ before e after same. comes_so before e ((legal_exactly x o es).0 legal before e after same))

  module _ (es : List Entry) (legal : IsLegal x o es) where
    abbrev fits : HistoryFits es
    fits = history_fits es legal

    pub waiting_fits : (s : SchedId) → IsScheduler (heads x) s → All (Fits x s) (waiting (heads x) s es)
    waiting_fits s declared = all_of (Fits x s) (waiting (heads x) s es) (waits_fit es s fits declared)

    pub scheduler_fits : (s : SchedId) → IsScheduler (heads x) s → let m = (replayed x o.limits s es).machine in (m.s ≡ s) × MachFits x m
    scheduler_fits s declared = let r = replayed_fits es s fits declared in (r.own, r.machine)

    pub sents_fit : (s : SchedId) → IsScheduler (heads x) s → All (λ (note : InstantNote). All (SentFits x) note.sent) (replayed x o.limits s es).notes
    sents_fit s declared =
        let notes = (replayed x o.limits s es).notes in
        all_of (λ (note : InstantNote). All (SentFits x) note.sent) notes
        (each_map NoteFits (λ (note : InstantNote). All (SentFits x) note.sent) notes (λ note f. all_of (SentFits x) note.sent f)
        (replayed_fits es s fits declared).notes)

    pub threads_fit : All (ThreadFits x Unlinked) (jobs es)
    threads_fit = all_of (ThreadFits x Unlinked) (jobs es) (jobs_fit es fits)

    pub posts_fit : (w : ℕ) → All (SentFits x) (unposted x o w es)
    posts_fit w = all_of (SentFits x) (unposted x o w es) (fits.posts w)

    pub clients_fit : (c : ℕ) → All (SentFits x) (unsent (heads x) c es)
    clients_fit c = all_of (SentFits x) (unsent (heads x) c es) (fits.orders c)

-- ---- as laws say it

pub sent_waits_fit : (x : Prog) → IsWellFormed x → (es : List Entry) → All (SentFits x) (sent_in es) → (s : SchedId) → IsScheduler (heads x) s → All (Fits x s) (waiting (heads x) s es)
sent_waits_fit x well es sent s declared =
    all_of (Fits x s) (waiting (heads x) s es)
    (sent_waits x s declared (starts_of (heads x) s) es (each_of (Fits x s) (starts_of (heads x) s) (starts_fit x well s)) (each_of (SentFits x) (sent_in es) sent))

pub sent_jobs_stand : (x : Prog) (es : List Entry) → All (SentFits x) (sent_in es) → All (ThreadFits x Unlinked) (jobs es)
sent_jobs_stand x es sent = all_of (ThreadFits x Unlinked) (jobs es) (sent_jobs x [] es tt (each_of (SentFits x) (sent_in es) sent))

module _ (x : Prog) (well : IsWellFormed x) (limits : Limits) (s : SchedId) (declared : IsScheduler (heads x) s) (batches : List (List Order)) (all : All (All (Fits x s)) batches) where
  -- replays ask for nothing but the limits
  abbrev options : RunOptions
  options = record { limits = limits; workers = 0 }

  replays_fit : ReplayedFits x well options s (replay x limits s batches)
  replays_fit =
      replay_fits x well options s (record { machine = empty x s; notes = [] }) batches (begun_fits x well options s declared)
      (each_map (All (Fits x s)) (BatchFits x well options s) batches (λ batch f. each_of (Fits x s) batch f) (each_of (All (Fits x s)) batches all))

  pub replayed_machine : let m = (replay x limits s batches).machine in (m.s ≡ s) × MachFits x m
  replayed_machine = (replays_fit.own, replays_fit.machine)

  pub replayed_notes : All (λ (note : InstantNote). All (SentFits x) note.sent) (replay x limits s batches).notes
  replayed_notes =
      let notes = (replay x limits s batches).notes in
      all_of (λ (note : InstantNote). All (SentFits x) note.sent) notes
      (each_map (NoteFits x well options) (λ (note : InstantNote). All (SentFits x) note.sent) notes (λ note f. all_of (SentFits x) note.sent f) replays_fit.notes)

-- instants leave as many shared values as there were
replay_on_values : (x : Prog) (limits : Limits) (r : Replayed) (batches : List (List Order)) → length (replay_on x limits r batches).machine.shared ≡ length r.machine.shared
replay_on_values x limits r [] = refl
replay_on_values x limits r (batch ∷ batches) = replay_on_values x limits (one_more x limits r batch) batches ∙ instant_shared x limits r.machine batch

pub replayed_values : (x : Prog) (limits : Limits) (s : SchedId) (batches : List (List Order)) → HasValues (heads x) (Sched s) (length (replay x limits s batches).machine.shared)
replayed_values x limits s batches = replay_on_values x limits (record { machine = empty x s; notes = [] }) batches
