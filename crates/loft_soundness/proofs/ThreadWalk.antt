-- What is claimed of new threads, and kept by each run and each close, holds of the threads of each history, wherever they are.
use Rattle.std.proofs.Common.{◌≡◌, ℕ, Bool, true, false, cond, List, [], ◌∷◌, ◌++◌, map, filter, length, Option, Some, None, refl, sym, subst, ap}
use Rattle.std.specs.Prelude.{if◌then◌else◌, ◌==◌, nat_lt, not, is_some}
use Rattle.std.proofs.lemmas.Bool.{eqb-true}
use Rattle.loft_base.specs.declared.ids.ModuleId.{ModuleId}
use Rattle.loft_base.specs.declared.ids.SchedId.{SchedId}
use Rattle.loft_base.specs.declared.ids.ThreadId.{ThreadId}
use Rattle.loft_base.specs.declared.ids.Value.{Value}
use Rattle.loft_tree.specs.declared.heads.Place.{Place}
use Rattle.loft_tree.specs.declared.heads.Place.TheVariants.{Sched, Unlinked}
use Rattle.loft_tree.specs.Fits.{Each}
use Rattle.loft_orders.specs.declared.entry.Entry.{Entry}
use Rattle.loft_orders.specs.declared.entry.Entry.TheVariants.{Take, Give, Pick, Post, Client}
use Rattle.loft_base.specs.declared.options.RunOptions.{RunOptions}
use Rattle.loft_sense.specs.declared.limits.TheConstants.{MAX_LINKED}
use Rattle.loft_orders.specs.declared.note.Act.{Act}
use Rattle.loft_orders.specs.declared.note.Act.TheVariants as act
use Rattle.loft_orders.specs.declared.note.Standing.{Standing}
use Rattle.loft_orders.specs.declared.order.End.{End}
use Rattle.loft_orders.specs.declared.order.Order.{Order}
use Rattle.loft_orders.specs.declared.order.Order.TheVariants as order
use Rattle.loft_orders.specs.declared.order.Sent.{Sent}
use Rattle.loft_orders.specs.declared.order.To.{To}
use Rattle.loft_orders.specs.declared.order.To.TheVariants as to
use Rattle.loft_orders.specs.declared.thread.Thread.{Thread}
use Rattle.loft_sense.specs.Machine.{Prog, heads, Mach}
use Rattle.loft_sense.specs.Around.{Around}
use Rattle.loft_sense.specs.CanGo.{same_thread}
use Rattle.loft_sense.specs.Run.{Outcome, Held, Left, Ended}
use Rattle.loft_sense.specs.Passes.{Runner, run_of, runners_after, around_after, passes}
use Rattle.loft_sense.specs.Moments.{Moment, IsKeptByRuns}
use Rattle.loft_sense.specs.Apply.{Applied, new_thread, is_linked, with_last, without_first, suspend, tell_end, apply_order, apply_orders, unapplied, apply}
use Rattle.loft_sense.specs.Instant.{runner_of, around_of, closed_wait, closed, stays, leaver, leavers, sent_by, instant}
use Rattle.loft_sense.specs.Async.{alone, block_sent, async}
use Rattle.loft_history.specs.Clients.{outside_of, orders_of}
use Rattle.loft_sense.specs.Fits.{Fits}
use Rattle.loft_history.specs.History.{sends, is_addressed, orders_to, starts_of, jobs_sent}
use Rattle.loft_history.specs.Legal.{AtEach, IsCallersEntry, ComesNext}
use Rattle.loft_sense.proofs.MomentLemmas.{kept_by_passes}
use Rattle.loft_soundness.specs.Points.{AroundFits, ActFits, LeavesStanding}
use Rattle.loft_soundness.specs.Machines.{ThreadFits, MachFits, SentFits}
use Rattle.loft_soundness.specs.WellFormed.{IsWellFormed}
use Rattle.loft_soundness.specs.Threads.{Claim, Grant, Carries, CarriesTo, SentCarries, IsGranted, ActGrants, LeavesSo}
use Rattle.loft_soundness.proofs.ListLemmas.{each_append, each_of}
use Rattle.loft_soundness.proofs.StandLemmas.{run_leaves}
use Rattle.loft_soundness.proofs.CarryLemmas.{each_parted, each_both, each_first, each_second, out_so, starts_carry, clients_carry, call_carries, job_so}
use Rattle.loft_soundness.proofs.OrderLemmas.{orders_fit, starts_fit, outside_fits}
use Rattle.loft_soundness.proofs.InstantLemmas.{RunnerFits, runners_fit, around_fits, ready_fits, begin_fit, alone_fits, batch_applied, first_around, instant_fits, async_fits, empty_fits}
use Rattle.loft_soundness.proofs.HistoryWalk.{Claims, Routes, AreKept, HistoryHolds, history_holds}
use Rattle.loft_soundness.proofs.HistoryFits.{sent_stand, called_fit}

-- ---- the claim

-- New threads begin so where both is granted, the close and each run keep it, and each create that a start, a client or a run
-- sends has the first grant.
pub record Premises (x : Prog) (P : Claim) (M N : Grant) : Type 0 where
  pub begins : (s : SchedId) (t : ThreadId) (m : ModuleId) (args : List Value) → Fits x s (order.Create t m args) → M t m args → N t m args → P (Sched s) (new_thread (heads x) t m args)
  pub closes : (s : SchedId) (t : Thread) → ThreadFits x (Sched s) t → P (Sched s) t → P (Sched s) (record t { wait = closed_wait t.wait })
  pub runs : (place : Place) (t : Thread) (around : Around) (left : ℕ) → ThreadFits x place t → AroundFits (heads x) place around → P place t → LeavesSo P place (run_of x t around left)
  pub starts : (s : SchedId) → Each (IsGranted M) (starts_of (heads x) s)
  pub known_starts : (s : SchedId) → Each (IsGranted N) (starts_of (heads x) s)
  pub clients : (c : ℕ) → Each (λ (m : Sent). IsGranted M m.order) (outside_of (heads x) c)
  pub acts : (place : Place) (t : Thread) (around : Around) (left : ℕ) → ThreadFits x place t → AroundFits (heads x) place around → P place t
      → Each (ActGrants M) around.acts → Each (ActGrants M) (around_after (run_of x t around left)).acts

module _ (x : Prog) (well : IsWellFormed x) (P : Claim) (M N : Grant) (h : Premises x P M N) where
  -- what is sent
  abbrev pub SentSo : Sent → Type 0
  SentSo m = SentCarries P m × IsGranted M m.order

  -- what waits
  abbrev pub WaitsBoth : SchedId → Order → Type 0
  WaitsBoth s o = Carries P s o × (IsGranted M o × IsGranted N o)

  abbrev LinkedSo : SchedId → Standing → Type 0
  LinkedSo s q = P (Sched s) q.thread

  -- ---- the batch

  unlinked_one : (s : SchedId) (b : Bool) (q : Standing) (rest others : List Standing) → LinkedSo s q → Each (LinkedSo s) rest → Each (LinkedSo s) others → Each (LinkedSo s) (if b then rest else q ∷ others)
  unlinked_one s true q rest others f g k = g
  unlinked_one s false q rest others f g k = (f, k)

  unlink_so : (s : SchedId) (t : ThreadId) (ss : List Standing) → Each (LinkedSo s) ss → Each (LinkedSo s) (without_first t ss)
  unlink_so s t [] f = tt
  unlink_so s t (q ∷ ss) f = unlinked_one s (same_thread t q.thread.id) q ss (without_first t ss) f.0 f.1 (unlink_so s t ss f.1)

  suspended_one : (s : SchedId) (b suspended : Bool) (q : Standing) (rest others : List Standing) → LinkedSo s q → Each (LinkedSo s) rest → Each (LinkedSo s) others
      → Each (LinkedSo s) (if b then record q { suspended = suspended } ∷ rest else q ∷ others)
  suspended_one s true suspended q rest others f g k = (f, g)
  suspended_one s false suspended q rest others f g k = (f, k)

  suspend_so : (s : SchedId) (t : ThreadId) (suspended : Bool) (ss : List Standing) → Each (LinkedSo s) ss → Each (LinkedSo s) (suspend t suspended ss)
  suspend_so s t suspended [] f = tt
  suspend_so s t suspended (q ∷ ss) f = suspended_one s (same_thread t q.thread.id) suspended q ss (suspend t suspended ss) f.0 f.1 (suspend_so s t suspended ss f.1)

  record AppliedSo (s : SchedId) (a : Applied) : Type 0 where
    pub linked : Each (LinkedSo s) a.linked
    pub sent : Each SentSo a.sent

  applied_one : (s : SchedId) (b : Bool) (v w : Applied) → AppliedSo s v → AppliedSo s w → AppliedSo s (if b then v else w)
  applied_one s true v w f g = f
  applied_one s false v w f g = g

  link_so : (s : SchedId) (t : Thread) (ss : List Standing) → Each (LinkedSo s) ss → P (Sched s) t → Each (LinkedSo s) (with_last t ss)
  link_so s t ss f g = each_append (LinkedSo s) ss (record { thread = t; suspended = false } ∷ []) f (g, tt)

  ended_so : (s : SchedId) (t : ThreadId) (end : End) (ms : List Sent) → Each SentSo ms → Each SentSo (ms ++ tell_end (Sched s) t end ∷ [])
  ended_so s t end ms f = each_append SentSo ms (tell_end (Sched s) t end ∷ []) f ((λ q. tt, tt), tt)

  order_so : (s : SchedId) (a : Applied) (o : Order) → AppliedSo s a → Fits x s o → WaitsBoth s o → AppliedSo s (apply_order (heads x) s a o)
  order_so s a (order.Create t m args) f fits g =
      applied_one s (nat_lt (length a.linked) MAX_LINKED) _ _
      (record { linked = link_so s (new_thread (heads x) t m args) a.linked f.linked (h.begins s t m args fits g.1.0 g.1.1); sent = f.sent })
      (record { linked = f.linked; sent = ended_so s t _ a.sent f.sent })
  order_so s a (order.Arrive t) f fits g = record { linked = link_so s t a.linked f.linked g.0; sent = f.sent }
  order_so s a (order.Stop t) f fits g =
      applied_one s (is_linked t a.linked) _ _
      (record { linked = unlink_so s t a.linked f.linked; sent = ended_so s t _ a.sent f.sent })
      (record { linked = f.linked; sent = f.sent })
  order_so s a (order.Suspend t) f fits g =
      applied_one s (is_linked t a.linked) _ _
      (record { linked = suspend_so s t true a.linked f.linked; sent = f.sent })
      (record { linked = f.linked; sent = f.sent })
  order_so s a (order.Resume t) f fits g =
      applied_one s (is_linked t a.linked) _ _
      (record { linked = suspend_so s t false a.linked f.linked; sent = f.sent })
      (record { linked = f.linked; sent = f.sent })
  order_so s a (order.Broadcast e v) f fits g = record { linked = f.linked; sent = f.sent }
  order_so s a (order.Ended t end) f fits g = record { linked = f.linked; sent = f.sent }

  orders_so : (s : SchedId) (a : Applied) (os : List Order) → AppliedSo s a → Each (Fits x s) os → Each (WaitsBoth s) os → AppliedSo s (apply_orders (heads x) s a os)
  orders_so s a [] f fits g = f
  orders_so s a (o ∷ os) f fits g = orders_so s (apply_order (heads x) s a o) os (order_so s a o f fits.0 g.0) fits.1 g.1

  -- ---- passes

  -- a thread that is still linked is so here; one that leaves is so where it goes
  abbrev GoingSo : SchedId → Option To → Thread → Type 0
  GoingSo s None t = P (Sched s) t
  GoingSo s (Some to) t = CarriesTo P to (order.Arrive t)

  abbrev RunnerSo : SchedId → Runner → Type 0
  RunnerSo s r = GoingSo s r.leaving r.thread

  record MomentSo (s : SchedId) (m : Moment) : Type 0 where
    pub fits : Each (RunnerFits x s) m.runners
    pub around : AroundFits (heads x) (Sched s) m.around
    pub runners : Each (RunnerSo s) m.runners
    pub acts : Each (ActGrants M) m.around.acts

  runners_so : (s : SchedId) (r : Runner) (o : Outcome) (rest : List Runner) → r.leaving ≡ None → LeavesSo P (Sched s) o → Each (RunnerSo s) rest → Each (RunnerSo s) (runners_after r o ++ rest)
  runners_so s r (Held t around left) rest e f g = (subst (λ (leaving : Option To). GoingSo s leaving t) (sym e) f, g)
  runners_so s r (Left t to around left) rest e f g = (f, g)
  runners_so s r (Ended end around left) rest e f g = g

  moments_so : (s : SchedId) → IsKeptByRuns x (MomentSo s)
  moments_so s front r rest around ready f =
      let o = run_of x r.thread around r.left in
      let fits = each_parted (RunnerFits x s) front r rest f.fits in
      let so = each_parted (RunnerSo s) front r rest f.runners in
      let is = ready_fits x s r around fits.1.0 ready in
      let here : P (Sched s) r.thread = subst (λ (leaving : Option To). GoingSo s leaving r.thread) is.0 so.1.0 in
      let stands = run_leaves x well r.thread (Sched s) around r.left is.1.0 is.1.1 f.around in
      record {
        fits = each_append (RunnerFits x s) front (runners_after r o ++ rest) fits.0 (runners_fit x s r o rest is.0 stands fits.1.1);
        around = around_fits x s o stands;
        runners = each_append (RunnerSo s) front (runners_after r o ++ rest) so.0 (runners_so s r o rest is.0 (h.runs (Sched s) r.thread around r.left is.1 f.around here) so.1.1);
        acts = h.acts (Sched s) r.thread around r.left is.1 f.around here f.acts;
      }

  begin_so : (s : SchedId) (budget : ℕ) (ss : List Standing) → Each (LinkedSo s) ss → Each (RunnerSo s) (map (runner_of budget) ss)
  begin_so s budget [] f = tt
  begin_so s budget (q ∷ ss) f = (f.0, begin_so s budget ss f.1)

  -- ---- the close

  closed_one : (s : SchedId) (suspended : Bool) (t : Thread) → ThreadFits x (Sched s) t → P (Sched s) t → P (Sched s) (if suspended then t else record t { wait = closed_wait t.wait })
  closed_one s true t fits f = f
  closed_one s false t fits f = h.closes s t fits f

  stay_one : (s : SchedId) (r : Runner) (leaving : Option To) (rest : List Runner) → RunnerFits x s (record r { leaving = leaving }) → GoingSo s leaving r.thread → Each (LinkedSo s) (map closed rest)
      → Each (LinkedSo s) (map closed (cond (not (is_some leaving)) (r ∷ rest) rest))
  stay_one s r None rest fits f g = (closed_one s r.suspended r.thread fits f, g)
  stay_one s r (Some to) rest fits f g = g

  linked_so : (s : SchedId) (rs : List Runner) → Each (RunnerFits x s) rs → Each (RunnerSo s) rs → Each (LinkedSo s) (map closed (filter stays rs))
  linked_so s [] fits f = tt
  linked_so s (r ∷ rs) fits f = stay_one s r r.leaving (filter stays rs) fits.0 f.0 (linked_so s rs fits.1 f.1)

  leaver_so : (s : SchedId) (t : Thread) (leaving : Option To) → GoingSo s leaving t → Each SentSo (leaver t leaving)
  leaver_so s t None f = tt
  leaver_so s t (Some to) f = ((f, tt), tt)

  leavers_so : (s : SchedId) (rs : List Runner) → Each (RunnerSo s) rs → Each SentSo (leavers rs)
  leavers_so s [] f = tt
  leavers_so s (r ∷ rs) f = each_append SentSo (leaver r.thread r.leaving) (leavers rs) (leaver_so s r.thread r.leaving f.0) (leavers_so s rs f.1)

  -- ---- acts

  told_so : (place : Place) (t : ThreadId) (end : End) → SentSo (tell_end place t end)
  told_so (Sched s) t end = (λ q. tt, tt)
  told_so Unlinked t end = (λ q. tt, tt)

  acts_so : (place : Place) (acts : List Act) → Each (ActFits (heads x)) acts → Each (ActGrants M) acts → Each SentSo (sent_by place acts)
  acts_so place [] fits f = tt
  acts_so place (act.Print t line ∷ acts) fits f = acts_so place acts fits.1 f.1
  acts_so place (act.Gen t event value ∷ acts) fits f = acts_so place acts fits.1 f.1
  acts_so place (act.Out t sent ∷ acts) fits f = ((out_so x P sent.to sent.order fits.0, f.0), acts_so place acts fits.1 f.1)
  acts_so place (act.End t end ∷ acts) fits f = (told_so place t end, acts_so place acts fits.1 f.1)

  -- ---- instants and blocks

  -- a machine whose threads are so
  abbrev pub MachSo : Mach → Type 0
  MachSo m = Each (LinkedSo m.s) m.linked

  record InstantSo (m : Mach) (sent : List Sent) : Type 0 where
    pub machine : MachSo m
    pub sents : Each SentSo sent

  instant_so : (o : RunOptions) (m : Mach) (batch : List Order) → MachFits x m → MachSo m → Each (Fits x m.s) batch → Each (WaitsBoth m.s) batch
      → InstantSo (instant x o.limits m batch).machine (instant x o.limits m batch).note.sent
  unfolding instant
  instant_so o m batch fits f order_fits g =
      let a = apply x m batch in
      let so = orders_so m.s (unapplied (heads x) m) batch (record { linked = f; sent = tt }) order_fits g in
      let rs = map (runner_of o.limits.budget) a.linked in
      let last = passes x rs (around_of m a) in
      let w = kept_by_passes x (MomentSo m.s) (moments_so m.s) rs (around_of m a) (record {
        fits = begin_fit x m.s o.limits.budget a.linked (batch_applied x well m batch fits order_fits).linked;
        around = first_around x well m batch fits order_fits;
        runners = begin_so m.s o.limits.budget a.linked so.linked;
        acts = tt;
      }) in
      record {
        machine = linked_so m.s last.runners w.fits w.runners;
        sents =
            each_append SentSo a.sent (sent_by (Sched m.s) last.around.acts ++ leavers last.runners) so.sent
            (each_append SentSo (sent_by (Sched m.s) last.around.acts) (leavers last.runners)
            (acts_so (Sched m.s) last.around.acts w.around.acts w.acts) (leavers_so m.s last.runners w.runners));
      }

  block_so : (out : Outcome) → LeavesStanding x Unlinked out → LeavesSo P Unlinked out → Each (ActGrants M) (around_after out).acts → Each SentSo (block_sent out)
  block_so (Held t around left) fits f g = acts_so Unlinked around.acts fits.2.acts g
  block_so (Left t to around left) fits f g = each_append SentSo (sent_by Unlinked around.acts) _ (acts_so Unlinked around.acts fits.3.acts g) ((f, tt), tt)
  block_so (Ended end around left) fits f g = acts_so Unlinked around.acts fits.1.acts g

  async_so : (t : Thread) (block : ℕ) → ThreadFits x Unlinked t → P Unlinked t → Each SentSo (async x t block)
  async_so t block fits f =
      block_so (run_of x t (alone x) block) (run_leaves x well t Unlinked (alone x) block fits.0 fits.1 (alone_fits x))
      (h.runs Unlinked t (alone x) block fits (alone_fits x) f) (h.acts Unlinked t (alone x) block fits (alone_fits x) f tt)

  -- ---- what is sent, where it waits

  addressed_one : (s q : SchedId) (o : Order) (os : List Order) (b : Bool) → (s.0 == q.0) ≡ b → Carries P q o → IsGranted M o × IsGranted N o → Each (WaitsBoth s) os → Each (WaitsBoth s) (if b then o ∷ os else os)
  addressed_one s q o os true e f g k = let same : q ≡ s = ap (λ (n : ℕ). record { 0 = n }) (sym (eqb-true s.0 q.0 e)) in ((subst (λ (r : SchedId). Carries P r o) same f, g), k)
  addressed_one s q o os false e f g k = k

  others_one : (s : SchedId) (o : Order) (os : List Order) (b : Bool) → WaitsBoth s o → Each (WaitsBoth s) os → Each (WaitsBoth s) (if b then o ∷ os else os)
  others_one s o os true f k = (f, k)
  others_one s o os false f k = k

  addressed_to : (s : SchedId) (to : To) (o : Order) (os : List Order) → CarriesTo P to o → IsGranted M o × IsGranted N o → Each (WaitsBoth s) os → Each (WaitsBoth s) (if is_addressed s to then o ∷ os else os)
  addressed_to s (to.Sched q) o os f g k = addressed_one s q o os (s.0 == q.0) refl f g k
  addressed_to s (to.Others q) o os f g k = others_one s o os (is_addressed s (to.Others q)) (f s, g) k
  addressed_to s to.All o os f g k = ((f s, g), k)
  addressed_to s to.Workers o os f g k = k

  waits_so : (s : SchedId) (ms : List Sent) → Each SentSo ms → Each (λ (m : Sent). IsGranted N m.order) ms → Each (WaitsBoth s) (orders_to s ms)
  waits_so s [] f g = tt
  waits_so s (m ∷ ms) f g = addressed_to s m.to m.order (orders_to s ms) f.0.0 (f.0.1, g.0) (waits_so s ms f.1 g.1)

  jobs_so : (ms : List Sent) → Each SentSo ms → Each (P Unlinked) (jobs_sent ms)
  jobs_so [] f = tt
  jobs_so (m ∷ ms) f = job_so x P m.to m.order (jobs_sent ms) f.0.0 (jobs_so ms f.1)

  -- ---- histories

  abbrev pub thread_claims : Claims
  thread_claims = record {
    order = λ s o. Fits x s o × WaitsBoth s o;
    job = λ t. ThreadFits x Unlinked t × P Unlinked t;
    machine = λ m. MachFits x m × MachSo m;
    sent = λ m. SentFits x m × SentSo m;
    known = λ m. IsGranted N m.order;
  }

  threads_routed : Routes x thread_claims
  threads_routed = record {
    orders = λ s declared ms f g.
        each_both (Fits x s) (WaitsBoth s) (orders_to s ms) (orders_fit x s declared ms (each_first (SentFits x) SentSo ms f)) (waits_so s ms (each_second (SentFits x) SentSo ms f) g);
    jobs = λ ms f g.
        each_both (ThreadFits x Unlinked) (P Unlinked) (jobs_sent ms) (sent_stand x ms (each_first (SentFits x) SentSo ms f)) (jobs_so ms (each_second (SentFits x) SentSo ms f));
  }

  pub threads_kept : (o : RunOptions) → AreKept x o thread_claims
  threads_kept o = record {
    begins = λ s declared. (empty_fits x s declared, tt);
    machines = λ m batch f g.
        let fits = each_first (Fits x m.s) (WaitsBoth m.s) batch g in
        let so = each_second (Fits x m.s) (WaitsBoth m.s) batch g in
        ((instant_fits x well o.limits m batch f.0 fits).machine, (instant_so o m batch f.0 f.1 fits so).machine);
    notes = λ m batch f g.
        let fits = each_first (Fits x m.s) (WaitsBoth m.s) batch g in
        let so = each_second (Fits x m.s) (WaitsBoth m.s) batch g in
        let sent = (instant x o.limits m batch).note.sent in
        each_both (SentFits x) SentSo sent (instant_fits x well o.limits m batch f.0 fits).sents (instant_so o m batch f.0 f.1 fits so).sents;
    blocks = λ t f. each_both (SentFits x) SentSo (async x t o.limits.block) (async_fits x well t o.limits.block f.0) (async_so t o.limits.block f.0 f.1);
    starts = λ s.
        let orders = starts_of (heads x) s in
        each_both (Fits x s) (WaitsBoth s) orders (each_of (Fits x s) orders (starts_fit x well s))
        (each_both (Carries P s) (λ q. IsGranted M q × IsGranted N q) orders (starts_carry x P s 0 (heads x).starts)
        (each_both (IsGranted M) (IsGranted N) orders (h.starts s) (h.known_starts s)));
    clients = λ c.
        let sent = outside_of (heads x) c in
        each_both (SentFits x) SentSo sent (outside_fits x well c)
        (each_both (SentCarries P) (λ m. IsGranted M m.order) sent (clients_carry x P c 0 (orders_of (heads x) c)) (h.clients c));
    routes = threads_routed;
  }

  -- the creates that an entry sends have this grant
  abbrev pub EntryGrants : Grant → Entry → Type 0
  EntryGrants G e = Each (λ (m : Sent). IsGranted G m.order) (sends e)

  call_so : (before : List Entry) (e : Entry) → (IsCallersEntry x before e → EntryGrants M e) → IsCallersEntry x before e → Each (λ (m : Sent). SentFits x m × SentSo m) (sends e)
  call_so before (Take s batch) g call = absurd call
  call_so before (Give s sent) g call = absurd call
  call_so before (Pick w job) g call = absurd call
  call_so before (Post w sent) g call = absurd call
  call_so before (Client c sent) g call = (((called_fit x before (Client c sent) call).0, (call_carries x P _ sent.to sent.order call.1.0 call.1.1, (g call).0)), tt)

  -- what a history needs beside: callers grant, and of each entry it is known
  abbrev pub EntrySo : List Entry → Entry → Type 0
  EntrySo before e = (IsCallersEntry x before e → EntryGrants M e) × EntryGrants N e

  pub threads_so : (o : RunOptions) (es : List Entry) → AtEach (ComesNext x o) es → AtEach EntrySo es → HistoryHolds x o thread_claims es
  threads_so o es legal grants =
      history_holds x o thread_claims (threads_kept o) es
      (λ before e after same.
      let g = grants before e after same in
      record { next = legal before e after same; call = call_so before e g.0; known = g.1 })
