-- In each history of an expanded program a lock keeps what it promises.
use Rattle.std.proofs.Common.{◌≡◌, ℕ, zero, suc, ◌+◌, ◌≤◌, ◌==◌, inl, inr, Bool, true, false, List, [], ◌∷◌, ◌++◌, map, take, Option, Some, None, slice_get, refl, sym, ap, ◌∙◌, subst, append_assoc, arith}
use Rattle.std.specs.Option.{option_map_or}
use Rattle.std.specs.Prelude.{ℤ, pos, if◌then◌else◌, All}
use Rattle.std.proofs.lemmas.Bool.{eqb-true, eqb-false}
use Rattle.loft_base.specs.declared.ids.SchedId.{SchedId}
use Rattle.loft_base.specs.declared.ids.ThreadId.{ThreadId}
use Rattle.loft_base.specs.declared.ids.Maker.TheVariants as maker
use Rattle.loft_base.specs.declared.options.RunOptions.{RunOptions}
use Rattle.loft_tree.specs.declared.heads.Place.TheVariants.{Sched, Unlinked}
use Rattle.loft_tree.specs.declared.heads.Start.{Start}
use Rattle.loft_tree.specs.declared.heads.ClientOrder.{ClientOrder}
use Rattle.loft_tree.specs.declared.heads.ClientOrder.TheVariants as client
use Rattle.loft_tree.specs.declared.heads.Client.{Client as ClientHead}
use Rattle.loft_tree.specs.declared.heads.Heads.{Heads}
use Rattle.loft_tree.specs.declared.kinds.Control.{Control}
use Rattle.loft_tree.specs.declared.kinds.Control.TheVariants as control
use Rattle.loft_tree.specs.Fits.{Each}
use Rattle.loft_tree.specs.NamedFits.{IsScheduler, SharedHolds}
use Rattle.loft_tree.specs.Resolved.{Resolved}
use Rattle.loft_orders.specs.declared.entry.Entry.{Entry}
use Rattle.loft_orders.specs.declared.entry.Entry.TheVariants.{Take, Give, Pick, Post, Client}
use Rattle.loft_orders.specs.declared.note.InstantNote.{InstantNote}
use Rattle.loft_orders.specs.declared.note.Standing.{Standing}
use Rattle.loft_orders.specs.declared.order.Order.{Order}
use Rattle.loft_orders.specs.declared.order.Order.TheVariants as order
use Rattle.loft_orders.specs.declared.order.To.{To}
use Rattle.loft_orders.specs.declared.order.To.TheVariants as to
use Rattle.loft_orders.specs.declared.order.Sent.{Sent}
use Rattle.loft_orders.specs.declared.thread.Thread.{Thread}
use Rattle.loft_sense.specs.Heads.{same_scheduler, shared_values}
use Rattle.loft_sense.specs.Machine.{Prog, Tree, Mach, empty}
use Rattle.loft_sense.specs.Moments.{Moment}
use Rattle.loft_sense.specs.Statements.{order_of}
use Rattle.loft_sense.specs.Fits.{Fits}
use Rattle.loft_sense.specs.Instant.{instant, Replayed, one_more, replay_on, replay}
use Rattle.loft_sense.specs.Async.{async}
use Rattle.loft_sense.proofs.InstantLemmas.{instant_scheduler}
use Rattle.loft_history.specs.Clients.{orders_from, outside_of}
use Rattle.loft_history.specs.History.{sends, log, is_addressed, orders_to, starts_from, starts_of, waiting, job_before, jobs_sent, jobs, unposted, replayed}
use Rattle.loft_history.specs.Legal.{actor_of, AtEach, IsLegal, IsNoCaller, HasNoCallers, IsCallersEntry, ComesNext}
use Rattle.loft_history.proofs.LegalEntries.{legal_exactly}
use Rattle.loft_soundness.specs.Machines.{ThreadFits, MachFits, SentFits}
use Rattle.loft_soundness.specs.WellFormed.{IsPlacedTree}
use Rattle.loft_soundness.proofs.ListLemmas.{each_map, each_at, all_of, each_of}
use Rattle.loft_soundness.proofs.CarryLemmas.{each_both, each_first, each_second}
use Rattle.loft_soundness.proofs.OrderLemmas.{orders_fit, starts_fit, outside_fits}
use Rattle.loft_soundness.proofs.InstantLemmas.{instant_fits, async_fits, empty_fits}
use Rattle.loft_soundness.proofs.HistoryFits.{sent_stand}
use Rattle.loft_soundness.proofs.HistoryWalk.{Claims, AreKept, NoteHolds, BatchHolds, ReplayedHolds, HistoryHolds, begun_holds, one_more_holds, replay_holds, replayed_holds, waits_hold, jobs_hold, picked_holds, history_holds}
use Rattle.loft_locks.specs.Locks.{Lock, Other, call_of, OrderKeeps, is_inside, IsExpanded}
use Rattle.loft_locks.specs.LocksHold.{insiders, held_in, OneHolds, IsLost, LockHolds, CarriesOutside, moments_in, threads_at, MomentHolds, after_instants, MachHolds, MachLost, StaysLost, LockKept}
use Rattle.loft_locks.proofs.ShareLemmas.{first_held}
use Rattle.loft_locks.proofs.KeepLemmas.{IsOutside, OrderRuns}
use Rattle.loft_locks.proofs.PointLemmas.{Allows}
use Rattle.loft_locks.proofs.Levels.{one_level, lost_level}
use Rattle.loft_locks.proofs.LostLemmas.{each_one, lost_machine, stays_lost, machine_lost}
use Rattle.loft_locks.proofs.PassLemmas.{SentRuns, linked_in, outside_is, runners_few, linked_few, runners_in, MomentRuns, MachRuns, instant_runs, async_runs}

-- ---- lists

each_take : {A : Type 0} (P : A → Type 0) (k : ℕ) (xs : List A) → Each P xs → Each P (take k xs)
each_take P zero xs f = tt
each_take P (suc k) [] f = tt
each_take P (suc k) (x ∷ xs) f = (f.0, each_take P k xs f.1)

one_if : {A : Type 0} (P : A → Type 0) (b : Bool) (x : A) (xs : List A) → P x → Each P xs → Each P (if b then x ∷ xs else xs)
one_if P true x xs f g = (f, g)
one_if P false x xs f g = g

nothing_known : (ms : List Sent) → Each (λ (m : Sent). Unit {0}) ms
nothing_known [] = tt
nothing_known (m ∷ ms) = (tt, nothing_known ms)

at_prefix : (P : List Entry → Entry → Type 0) (xs ys : List Entry) → AtEach P (xs ++ ys) → AtEach P xs
at_prefix P xs ys each b e a eq = each b e (a ++ ys) (ap (λ (zs : List Entry). zs ++ ys) eq ∙ append_assoc b (e ∷ a) ys)

-- ---- nobody inside

module _ (p : Resolved) (l : Lock) where
  carries_outside : (o : Order) → OrderRuns p l o → CarriesOutside p l o
  carries_outside (order.Create t m args) f = tt
  carries_outside (order.Arrive t) f = outside_is p l t f
  carries_outside (order.Stop t) f = tt
  carries_outside (order.Suspend t) f = tt
  carries_outside (order.Resume t) f = tt
  carries_outside (order.Broadcast event value) f = tt
  carries_outside (order.Ended t end) f = tt

  same_place : {s q : SchedId} → Sched s ≡ Sched q → s ≡ q
  same_place e = cc

  -- as the law says it
  holds : (s : SchedId) (shared : List ℤ) (ts : List Thread) (n : ℕ) → Allows p l OneHolds one_level (Sched s) (held_in p.heads l shared) n → insiders p l ts ≤ n → LockHolds p l s shared ts
  holds s shared ts n (inl f) le = record {
    there = λ e. one_level.less (held_in p.heads l shared) (insiders p l ts) n le f.1;
    elsewhere = λ off. absurd (off (same_place f.0));
  }
  holds s shared ts n (inr f) le = record {
    there = λ e. absurd (f.0 (ap (λ (q : SchedId). Sched q) e));
    elsewhere = λ off. let none = f.1 in omega (arith, none, le);
  }

  -- ---- orders to a scheduler

  orders_run : (s : SchedId) (ms : List Sent) → Each (SentRuns p l) ms → Each (OrderRuns p l) (orders_to s ms)
  orders_run s [] f = tt
  orders_run s (m ∷ ms) f = one_if (OrderRuns p l) (is_addressed s m.to) m.order (orders_to s ms) f.0 (orders_run s ms f.1)

  starts_run : (s : SchedId) (k : ℕ) (ts : List Start) → Each (λ (t : Start). call_of l t.module ≡ Other) ts → Each (OrderRuns p l) (starts_from s k ts)
  starts_run s k [] f = tt
  starts_run s k (t ∷ ts) f =
      one_if (OrderRuns p l) (same_scheduler s t.scheduler) (order.Create (record { maker = maker.Source; seq = k }) t.module t.arguments) (starts_from s (k + 1) ts) f.0 (starts_run s (k + 1) ts f.1)

  control_runs : (c : Control) (t : ThreadId) → OrderRuns p l (order_of c t)
  control_runs control.Stop t = tt
  control_runs control.Suspend t = tt
  control_runs control.Resume t = tt

  client_orders : (h : Heads) (c k : ℕ) (os : List ClientOrder) → Each (OrderKeeps l) os → Each (SentRuns p l) (orders_from h c k os)
  client_orders h c k [] f = tt
  client_orders h c k (client.Create s m arguments ∷ os) f = (f.0, client_orders h c (k + 1) os f.1)
  client_orders h c k (client.Control cn t s ∷ os) f = (control_runs cn t, client_orders h c k os f.1)
  client_orders h c k (client.Broadcast e value ∷ os) f = (tt, client_orders h c k os f.1)

  client_runs : (h : Heads) (c : ℕ) (there : Option ClientHead) → slice_get h.clients c ≡ there → Each (λ (d : ClientHead). Each (OrderKeeps l) d.orders) h.clients → Each (SentRuns p l) (orders_from h c 0 (option_map_or (λ d. d.orders) there []))
  client_runs h c None at all = tt
  client_runs h c (Some d) at all = client_orders h c 0 d.orders (each_at (λ (d : ClientHead). Each (OrderKeeps l) d.orders) h.clients c d all at)

  job_runs : (to : To) (o : Order) (waits : List Thread) → OrderRuns p l o → Each (IsOutside p l) waits → Each (IsOutside p l) (job_before to o waits)
  job_runs (to.Sched s) o waits f g = g
  job_runs (to.Others s) o waits f g = g
  job_runs to.All o waits f g = g
  job_runs to.Workers (order.Create t m arguments) waits f g = g
  job_runs to.Workers (order.Arrive t) waits f g = (f, g)
  job_runs to.Workers (order.Stop t) waits f g = g
  job_runs to.Workers (order.Suspend t) waits f g = g
  job_runs to.Workers (order.Resume t) waits f g = g
  job_runs to.Workers (order.Broadcast e v) waits f g = g
  job_runs to.Workers (order.Ended t end) waits f g = g

  jobs_run : (ms : List Sent) → Each (SentRuns p l) ms → Each (IsOutside p l) (jobs_sent ms)
  jobs_run [] f = tt
  jobs_run (m ∷ ms) f = job_runs m.to m.order (jobs_sent ms) f.0 (jobs_run ms f.1)

module _ (p : Resolved) (l : Lock) (is : IsExpanded p l) (well : IsPlacedTree p) (o : RunOptions) where
  abbrev x : Prog
  x = Tree p

  abbrev Runs : Mach → Type 0
  Runs m = MachRuns p l is well OneHolds one_level m

  -- where no instant was made the variable is 0
  first_allows : (s : SchedId) → Allows p l OneHolds one_level (Sched s) (held_in p.heads l (shared_values p.heads s)) 0
  first_allows s = by (s.0 == l.at.0) refl
    where
      by : (b : Bool) → (s.0 == l.at.0) ≡ b → Allows p l OneHolds one_level (Sched s) (held_in p.heads l (shared_values p.heads s)) 0
      by true e =
          let there : s ≡ l.at = ap (λ (k : ℕ). record { 0 = k }) (eqb-true s.0 l.at.0 e) in
          let zero_is : held_in p.heads l (shared_values p.heads s) ≡ Some (pos 0) = first_held p.heads s l.held is.variable is.declared (is.there ∙ sym there) ∙ ap (λ n. Some n) is.begins in
          inl (ap (λ (q : SchedId). Sched q) there, inl (zero_is, refl))
      by false e = inr (λ f. let same : s ≡ l.at = same_place p l f in eqb-false s.0 l.at.0 e (ap (λ (q : SchedId). q.0) same), refl)

  -- ---- what is claimed

  -- beside what fits: nobody who is inside waits, is a job or is sent, no thread is made in a module of the lock, and machines
  -- keep the lock
  abbrev lock_claims : Claims
  lock_claims = record {
    order = λ s q. Fits x s q × OrderRuns p l q;
    job = λ t. ThreadFits x Unlinked t × IsOutside p l t;
    machine = λ m. MachFits x m × Runs m;
    sent = λ m. SentFits x m × SentRuns p l m;
    known = λ m. Unit {0};
  }

  lock_kept_by : AreKept x o lock_claims
  lock_kept_by = record {
    begins = λ s declared. (empty_fits x s declared, record { linked = tt; allows = first_allows s });
    machines = λ m batch f g.
        let fits = each_first (Fits x m.s) (OrderRuns p l) batch g in
        let runs = each_second (Fits x m.s) (OrderRuns p l) batch g in
        ((instant_fits x well o.limits m batch f.0 fits).machine, (instant_runs p l is well OneHolds one_level o.limits m batch f.0 f.1 fits runs).machine);
    notes = λ m batch f g.
        let fits = each_first (Fits x m.s) (OrderRuns p l) batch g in
        let runs = each_second (Fits x m.s) (OrderRuns p l) batch g in
        let sent = (instant x o.limits m batch).note.sent in
        each_both (SentFits x) (SentRuns p l) sent (instant_fits x well o.limits m batch f.0 fits).sents (instant_runs p l is well OneHolds one_level o.limits m batch f.0 f.1 fits runs).sents;
    blocks = λ t f. each_both (SentFits x) (SentRuns p l) (async x t o.limits.block) (async_fits x well t o.limits.block f.0) (async_runs p l is well OneHolds one_level t o.limits.block f.0 f.1);
    starts = λ s.
        let orders = starts_of p.heads s in
        each_both (Fits x s) (OrderRuns p l) orders (each_of (Fits x s) orders (starts_fit x well s)) (starts_run p l s 0 p.heads.starts is.starts);
    clients = λ c.
        each_both (SentFits x) (SentRuns p l) (outside_of p.heads c) (outside_fits x well c) (client_runs p l p.heads c (slice_get p.heads.clients c) refl is.clients);
    routes = record {
      orders = λ s declared ms f known.
          each_both (Fits x s) (OrderRuns p l) (orders_to s ms) (orders_fit x s declared ms (each_first (SentFits x) (SentRuns p l) ms f)) (orders_run p l s ms (each_second (SentFits x) (SentRuns p l) ms f));
      jobs = λ ms f known.
          each_both (ThreadFits x Unlinked) (IsOutside p l) (jobs_sent ms) (sent_stand x ms (each_first (SentFits x) (SentRuns p l) ms f)) (jobs_run p l ms (each_second (SentFits x) (SentRuns p l) ms f));
    };
  }

  no_call : (h : List Entry) (e : Entry) → IsCallersEntry x h e → IsNoCaller p.heads (actor_of e) → ⊥
  no_call h (Take s batch) call none = call
  no_call h (Give s sent) call none = call
  no_call h (Pick w job) call none = call
  no_call h (Post w sent) call none = call
  no_call h (Client c sent) call none = let past = call.0 in omega (arith, past, none)

  abbrev MayCome : List Entry → Entry → Type 0
  MayCome h e = ComesNext x o h e × IsNoCaller p.heads (actor_of e)

  -- callers aside, nothing has to be known of what entries send
  holds_so : (es : List Entry) → AtEach MayCome es → HistoryHolds x o lock_claims es
  holds_so es may =
      history_holds x o lock_claims lock_kept_by es
      (λ before e after eq.
      let next = may before e after eq in
      record { next = next.0; call = λ call. absurd (no_call before e call next.1); known = nothing_known (sends e) })

  -- ---- as the law says it

  abbrev BatchRuns : SchedId → List Order → Type 0
  BatchRuns s batch = BatchHolds x o lock_claims s batch

  abbrev SentOutside : Sent → Type 0
  SentOutside m = CarriesOutside p l m.order

  orders_outside : (s : SchedId) (os : List Order) → BatchRuns s os → All (CarriesOutside p l) os
  orders_outside s os f = all_of (CarriesOutside p l) os (each_map (λ (q : Order). Fits x s q × OrderRuns p l q) (CarriesOutside p l) os (λ q g. carries_outside p l q g.1) f)

  sents_outside : (ms : List Sent) → Each (lock_claims.sent) ms → All SentOutside ms
  sents_outside ms f = all_of SentOutside ms (each_map (λ (m : Sent). SentFits x m × SentRuns p l m) SentOutside ms (λ m g. carries_outside p l m.order g.1) f)

  module _ (es : List Entry) (legal : IsLegal x o es) (none : HasNoCallers p.heads es) where
    may : AtEach MayCome es
    may before e after eq = ((legal_exactly x o es).0 legal before e after eq, none before e after eq)

    abbrev all : HistoryHolds x o lock_claims es
    all = holds_so es may

    abbrev at_first : SchedId → Replayed
    at_first s = record { machine = empty x s; notes = [] }

    -- the machine after so many instants
    at_instants : (s : SchedId) → IsScheduler p.heads s → (k : ℕ) → ReplayedHolds x o lock_claims s (replay x o.limits s (take k (log s es)))
    at_instants s declared k =
        replay_holds x o lock_claims lock_kept_by s (at_first s) (take k (log s es)) (begun_holds x o lock_claims lock_kept_by s declared)
        (each_take (BatchRuns s) k (log s es) (all.took s declared))

    between_holds : (s : SchedId) → IsScheduler p.heads s → (k : ℕ) → MachHolds p l (after_instants p o s es k)
    between_holds s declared k =
        let m = after_instants p o s es k in
        let r = (at_instants s declared k).machine.1 in
        holds p l m.s m.shared (map (λ (q : Standing). q.thread) m.linked) (linked_in p l m.linked) r.allows (linked_few p l m.linked)

    -- what an instant takes fits there, and takes nobody into the lock
    module _ (s : SchedId) (declared : IsScheduler p.heads s) (k : ℕ) (batch : List Order) (at : slice_get (log s es) k ≡ Some batch) where
      abbrev before : Mach
      before = after_instants p o s es k

      both_at : Each (λ (q : Order). Fits x s q × OrderRuns p l q) batch
      both_at = each_at (BatchRuns s) (log s es) k batch (all.took s declared) at

      batch_fits : Each (Fits x before.s) batch
      batch_fits = subst (λ (q : SchedId). Each (Fits x q) batch) (sym (at_instants s declared k).own) (each_first (Fits x s) (OrderRuns p l) batch both_at)

      batch_runs : Each (OrderRuns p l) batch
      batch_runs = each_second (Fits x s) (OrderRuns p l) batch both_at

    moment_holds : (s : SchedId) (t : Moment) → MomentRuns p l is well OneHolds one_level s t → MomentHolds p l s t
    moment_holds s t f = holds p l s t.around.shared (threads_at t) (runners_in p l t.runners) f.room.allows (runners_few p l t.runners)

    running_holds : (s : SchedId) → IsScheduler p.heads s → (k : ℕ) (batch : List Order) → slice_get (log s es) k ≡ Some batch → All (MomentHolds p l s) (moments_in p o.limits (after_instants p o s es k) batch)
    running_holds s declared k batch at =
        let m = after_instants p o s es k in
        let r = at_instants s declared k in
        let each = each_one p l is well o.limits m batch r.machine.0 (batch_fits s declared k batch at) (batch_runs s declared k batch at) r.machine.1 in
        let ms = moments_in p o.limits m batch in
        subst (λ (q : SchedId). All (MomentHolds p l q) ms) r.own (all_of (MomentHolds p l m.s) ms (each_map (MomentRuns p l is well OneHolds one_level m.s) (MomentHolds p l m.s) ms (moment_holds m.s) each))

    hands_outside : (before : List Entry) (w : ℕ) (job : Thread) (after : List Entry) → es ≡ before ++ Pick w job ∷ after → is_inside p l job ≡ false
    hands_outside before w job after eq =
        let here = holds_so before (at_prefix MayCome before (Pick w job ∷ after) (subst (AtEach MayCome) eq may)) in
        outside_is p l job (picked_holds x o lock_claims lock_kept_by before w job here (may before (Pick w job) after eq).0).1

    -- ---- a lock that is lost

    module _ (declared : IsScheduler p.heads l.at) where
      -- one more instant
      one_instant : (r : Replayed) (k : ℕ) (batches : List (List Order)) (batch : List Order) → slice_get batches k ≡ Some batch
          → replay_on x o.limits r (take (suc k) batches) ≡ one_more x o.limits (replay_on x o.limits r (take k batches)) batch
      one_instant r k [] batch at = absurd cc
      one_instant r zero (b ∷ bs) batch at = let same : b ≡ batch = cc in ap (λ (c : List Order). one_more x o.limits r c) same
      one_instant r (suc k) (b ∷ bs) batch at = one_instant (one_more x o.limits r b) k bs batch at

      lost_within : (k : ℕ) (batch : List Order) → slice_get (log l.at es) k ≡ Some batch → let m = after_instants p o l.at es in StaysLost p l o.limits (m k) batch (m (suc k))
      lost_within k batch at =
          let m = after_instants p o l.at es k in
          let r = at_instants l.at declared k in
          let stays = stays_lost p l is well o.limits m batch r.own r.machine.0 (batch_fits l.at declared k batch at) (batch_runs l.at declared k batch at) r.machine.1 (instant_scheduler x o.limits m batch ∙ r.own) in
          let next : (instant x o.limits m batch).machine ≡ after_instants p o l.at es (suc k) = ap (λ (q : Replayed). q.machine) (sym (one_instant (at_first l.at) k (log l.at es) batch at)) in
          subst (λ (n : Mach). StaysLost p l o.limits m batch n) next stays

      still_lost : (r : Replayed) (batches : List (List Order)) → ReplayedHolds x o lock_claims l.at r → Each (BatchRuns l.at) batches → MachLost p l r.machine → MachLost p l (replay_on x o.limits r batches).machine
      still_lost r [] f g lost = lost
      still_lost r (batch ∷ batches) f g lost =
          let fits = subst (λ (q : SchedId). Each (Fits x q) batch) (sym f.own) (each_first (Fits x l.at) (OrderRuns p l) batch g.0) in
          let runs = each_second (Fits x l.at) (OrderRuns p l) batch g.0 in
          let begins = lost_machine p l is well r.machine f.own f.machine.1 lost in
          let after = instant_runs p l is well IsLost lost_level o.limits r.machine batch f.machine.0 begins fits runs in
          still_lost (one_more x o.limits r batch) batches (one_more_holds x o lock_claims lock_kept_by l.at r batch f g.0) g.1
          (machine_lost p l is well (instant x o.limits r.machine batch).machine (instant_scheduler x o.limits r.machine batch ∙ f.own) after.machine)

      lost_from : (r : Replayed) (batches : List (List Order)) (k j : ℕ) → k ≤ j → ReplayedHolds x o lock_claims l.at r → Each (BatchRuns l.at) batches
          → MachLost p l (replay_on x o.limits r (take k batches)).machine → MachLost p l (replay_on x o.limits r (take j batches)).machine
      lost_from r batches zero j le f g lost = still_lost r (take j batches) f (each_take (BatchRuns l.at) j batches g) lost
      lost_from r batches (suc k) zero le f g lost = absurd (omega (arith, le))
      lost_from r [] (suc k) (suc j) le f g lost = lost
      lost_from r (batch ∷ batches) (suc k) (suc j) le f g lost =
          lost_from (one_more x o.limits r batch) batches k j (omega (arith, le)) (one_more_holds x o lock_claims lock_kept_by l.at r batch f g.0) g.1 lost

  pub lock_kept : (es : List Entry) → IsScheduler p.heads l.at → IsLegal x o es → HasNoCallers p.heads es → LockKept p l o es
  lock_kept es declared legal none =
      let all = holds_so es (may es legal none) in
      record {
        between = between_holds es legal none;
        running = running_holds es legal none;
        sent = λ s there.
            let notes = (replayed x o.limits s es).notes in
            all_of (λ (note : InstantNote). All SentOutside note.sent) notes
            (each_map (NoteHolds x o lock_claims) (λ (note : InstantNote). All SentOutside note.sent) notes (λ note f. sents_outside note.sent f) (replayed_holds x o lock_claims lock_kept_by es s all there).notes);
        waits = λ s there. orders_outside s (waiting p.heads s es) (waits_hold x o lock_claims lock_kept_by es s all there);
        batches = λ s there. all_of (All (CarriesOutside p l)) (log s es) (each_map (BatchRuns s) (All (CarriesOutside p l)) (log s es) (λ batch f. orders_outside s batch f) (all.took s there));
        jobs = all_of (λ (t : Thread). is_inside p l t ≡ false) (jobs es) (each_map (λ (t : Thread). ThreadFits x Unlinked t × IsOutside p l t) (λ (t : Thread). is_inside p l t ≡ false) (jobs es) (λ t f. outside_is p l t f.1) (jobs_hold x o lock_claims lock_kept_by es all));
        hands = hands_outside es legal none;
        posts = λ w. sents_outside (unposted x o w es) (all.posts w);
        lost_inside = lost_within es legal none declared;
        lost = λ k j le lost. lost_from es legal none declared (record { machine = empty x l.at; notes = [] }) (log l.at es) k j le (begun_holds x o lock_claims lock_kept_by l.at declared) (all.took l.at declared) lost;
      }

-- the scheduler of a lock is declared
lock_declared : (p : Resolved) (l : Lock) → IsPlacedTree p → IsExpanded p l → IsScheduler p.heads l.at
lock_declared p l well is =
    let shared : Each (SharedHolds p.heads) p.heads.shared = subst (λ (q : Resolved). Each (SharedHolds q.heads) q.heads.shared) well.same well.names.heads.within.shared in
    subst (IsScheduler p.heads) is.there (each_at (SharedHolds p.heads) p.heads.shared l.held.0 is.variable shared is.declared).scheduler

pub locks_kept : (p : Resolved) (l : Lock) → IsPlacedTree p → IsExpanded p l → (o : RunOptions) (es : List Entry) → IsLegal (Tree p) o es → HasNoCallers p.heads es → LockKept p l o es
locks_kept p l well is o es legal none = lock_kept p l is well o es (lock_declared p l well is) legal none
