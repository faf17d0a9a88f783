-- The batch, the passes and the close of an instant keep what a lock promises.
use Rattle.std.proofs.Common.{◌≡◌, ℕ, ◌+◌, ◌≤◌, inr, Bool, true, false, cond, List, [], ◌∷◌, ◌++◌, map, filter, length, Option, Some, None, refl, sym, ap, subst, arith}
use Rattle.std.specs.Prelude.{◌||◌, ℤ, not, is_some, nat_lt, if◌then◌else◌}
use Rattle.loft_base.specs.declared.ids.SchedId.{SchedId}
use Rattle.loft_base.specs.declared.ids.ThreadId.{ThreadId}
use Rattle.loft_tree.specs.declared.heads.Place.{Place}
use Rattle.loft_tree.specs.declared.heads.Place.TheVariants.{Sched, Unlinked}
use Rattle.loft_tree.specs.Fits.{Each}
use Rattle.loft_tree.specs.Resolved.{Resolved}
use Rattle.loft_orders.specs.declared.thread.Thread.{Thread}
use Rattle.loft_orders.specs.declared.order.End.{End}
use Rattle.loft_orders.specs.declared.order.End.TheVariants.{Stopped, Full as FullEnd}
use Rattle.loft_orders.specs.declared.order.Order.{Order}
use Rattle.loft_orders.specs.declared.order.Order.TheVariants as order
use Rattle.loft_orders.specs.declared.order.Sent.{Sent}
use Rattle.loft_orders.specs.declared.order.To.{To}
use Rattle.loft_orders.specs.declared.note.Act.{Act}
use Rattle.loft_orders.specs.declared.note.Act.TheVariants as act
use Rattle.loft_orders.specs.declared.note.Standing.{Standing}
use Rattle.loft_base.specs.declared.options.Limits.{Limits}
use Rattle.loft_sense.specs.declared.limits.TheConstants.{MAX_LINKED}
use Rattle.loft_sense.specs.Machine.{Prog, Tree, Mach}
use Rattle.loft_sense.specs.Around.{Around}
use Rattle.loft_sense.specs.CanGo.{same_thread}
use Rattle.loft_sense.specs.Run.{Outcome, Held, Left, Ended}
use Rattle.loft_sense.specs.Passes.{Runner, run_of, runners_after, around_after, passes}
use Rattle.loft_sense.specs.Moments.{Moment, moment, end_of, IsKeptByRuns}
use Rattle.loft_sense.specs.Apply.{Applied, new_thread, with_last, is_linked, without_first, suspend, tell_end, apply_order, apply_orders, unapplied, apply}
use Rattle.loft_sense.specs.Instant.{runner_of, around_of, closed_wait, closed, stays, leaver, leavers, sent_by, instant}
use Rattle.loft_sense.specs.Async.{alone, block_sent, async}
use Rattle.loft_soundness.specs.Machines.{ThreadFits, MachFits}
use Rattle.loft_soundness.specs.WellFormed.{IsPlacedTree}
use Rattle.loft_sense.specs.Fits.{Fits}
use Rattle.loft_soundness.proofs.ListLemmas.{each_append}
use Rattle.loft_soundness.proofs.InstantLemmas.{RunnerFits, runners_fit, around_fits, ready_fits, begin_fit, batch_applied, first_around}
use Rattle.loft_soundness.proofs.CarryLemmas.{each_parted}
use Rattle.loft_soundness.proofs.StandLemmas.{run_leaves}
use Rattle.loft_sense.proofs.MomentLemmas.{kept_by_passes}
use Rattle.loft_soundness.specs.Points.{AroundFits}
use Rattle.loft_locks.specs.Locks.{Lock, has_inside, is_inside, inside_at, IsExpanded}
use Rattle.loft_locks.specs.LocksHold.{one, insiders, held_in}
use Rattle.loft_locks.proofs.KeepLemmas.{depth, ThreadBegun, IsOutside, OrderRuns, ActRuns}
use Rattle.loft_locks.proofs.PointLemmas.{IsLevel, Allows, AroundRuns, allows_less, RunsTo}
use Rattle.loft_locks.proofs.WakeLemmas.{run_runs}

module _ (p : Resolved) (l : Lock) where
  abbrev pub SentRuns : Sent → Type 0
  SentRuns m = OrderRuns p l m.order

  -- how many frames of these threads are inside
  abbrev pub runners_in : List Runner → ℕ
  runners_in [] = 0
  runners_in (r ∷ rs) = depth p l r.thread.frames + runners_in rs

  abbrev pub linked_in : List Standing → ℕ
  linked_in [] = 0
  linked_in (q ∷ qs) = depth p l q.thread.frames + linked_in qs

  -- a thread that leaves isn't inside
  abbrev pub GoingRuns : Option To → Thread → Type 0
  GoingRuns None t = ThreadBegun l t
  GoingRuns (Some to) t = IsOutside p l t

  abbrev pub RunnerRuns : Runner → Type 0
  RunnerRuns r = GoingRuns r.leaving r.thread

  abbrev pub StandingRuns : Standing → Type 0
  StandingRuns q = ThreadBegun l q.thread

  pub runners_append : (rs qs : List Runner) → runners_in (rs ++ qs) ≡ runners_in rs + runners_in qs
  runners_append [] qs = omega arith
  runners_append (r ∷ rs) qs = let e = runners_append rs qs in omega (arith, e)

  linked_append : (rs qs : List Standing) → linked_in (rs ++ qs) ≡ linked_in rs + linked_in qs
  linked_append [] qs = omega arith
  linked_append (r ∷ rs) qs = let e = linked_append rs qs in omega (arith, e)

  -- ---- what is sent

  pub acts_run : (place : Place) (acts : List Act) → Each (ActRuns p l) acts → Each SentRuns (sent_by place acts)
  acts_run place [] f = tt
  acts_run place (act.Print t line ∷ acts) f = acts_run place acts f.1
  acts_run place (act.Gen t event value ∷ acts) f = acts_run place acts f.1
  acts_run place (act.Out t sent ∷ acts) f = (f.0, acts_run place acts f.1)
  acts_run place (act.End t end ∷ acts) f = (tt, acts_run place acts f.1)

  -- ---- batches

  -- a scheduler while it applies orders, whose threads had so many frames inside
  record AppliedRuns (n : ℕ) (a : Applied) : Type 0 where
    pub linked : Each StandingRuns a.linked
    pub few : linked_in a.linked ≤ n
    pub sent : Each SentRuns a.sent

  unlinked_one : (b : Bool) (q : Standing) (rest others : List Standing) → StandingRuns q → Each StandingRuns rest → Each StandingRuns others → Each StandingRuns (if b then rest else q ∷ others)
  unlinked_one true q rest others f g h = g
  unlinked_one false q rest others f g h = (f, h)

  unlink_runs : (t : ThreadId) (ss : List Standing) → Each StandingRuns ss → Each StandingRuns (without_first t ss)
  unlink_runs t [] f = tt
  unlink_runs t (q ∷ ss) f = unlinked_one (same_thread t q.thread.id) q ss (without_first t ss) f.0 f.1 (unlink_runs t ss f.1)

  unlink_few : (t : ThreadId) (ss : List Standing) → linked_in (without_first t ss) ≤ linked_in ss
  unlink_few t [] = omega arith
  unlink_few t (q ∷ ss) = by (same_thread t q.thread.id) (unlink_few t ss)
    where
      by : (b : Bool) → linked_in (without_first t ss) ≤ linked_in ss → linked_in (if b then ss else q ∷ without_first t ss) ≤ depth p l q.thread.frames + linked_in ss
      by true e = omega arith
      by false e = omega (arith, e)

  suspended_one : (b suspended : Bool) (q : Standing) (rest others : List Standing) → StandingRuns q → Each StandingRuns rest → Each StandingRuns others
      → Each StandingRuns (if b then record q { suspended = suspended } ∷ rest else q ∷ others)
  suspended_one true suspended q rest others f g h = (f, g)
  suspended_one false suspended q rest others f g h = (f, h)

  suspend_runs : (t : ThreadId) (suspended : Bool) (ss : List Standing) → Each StandingRuns ss → Each StandingRuns (suspend t suspended ss)
  suspend_runs t suspended [] f = tt
  suspend_runs t suspended (q ∷ ss) f = suspended_one (same_thread t q.thread.id) suspended q ss (suspend t suspended ss) f.0 f.1 (suspend_runs t suspended ss f.1)

  suspend_few : (t : ThreadId) (suspended : Bool) (ss : List Standing) → linked_in (suspend t suspended ss) ≤ linked_in ss
  suspend_few t suspended [] = omega arith
  suspend_few t suspended (q ∷ ss) = by (same_thread t q.thread.id) (suspend_few t suspended ss)
    where
      by : (b : Bool) → linked_in (suspend t suspended ss) ≤ linked_in ss → linked_in (if b then record q { suspended = suspended } ∷ ss else q ∷ suspend t suspended ss) ≤ depth p l q.thread.frames + linked_in ss
      by true e = omega arith
      by false e = omega (arith, e)

  applied_one : (n : ℕ) (b : Bool) (v w : Applied) → AppliedRuns n v → AppliedRuns n w → AppliedRuns n (if b then v else w)
  applied_one n true v w f g = f
  applied_one n false v w f g = g

  link_few : (n : ℕ) (t : Thread) (ss : List Standing) → depth p l t.frames ≡ 0 → linked_in ss ≤ n → linked_in (with_last t ss) ≤ n
  link_few n t ss none few = let e = linked_append ss (record { thread = t; suspended = false } ∷ []) in omega (arith, e, none, few)

  link_runs : (t : Thread) (ss : List Standing) → ThreadBegun l t → Each StandingRuns ss → Each StandingRuns (with_last t ss)
  link_runs t ss f g = each_append StandingRuns ss (record { thread = t; suspended = false } ∷ []) g (f, tt)

  ended_runs : (s : SchedId) (t : ThreadId) (end : End) (sent : List Sent) → Each SentRuns sent → Each SentRuns (sent ++ tell_end (Sched s) t end ∷ [])
  ended_runs s t end sent f = each_append SentRuns sent (tell_end (Sched s) t end ∷ []) f (tt, tt)

  order_applied : (s : SchedId) (n : ℕ) (a : Applied) (o : Order) → AppliedRuns n a → OrderRuns p l o → AppliedRuns n (apply_order p.heads s a o)
  order_applied s n a (order.Create t m args) f g =
      applied_one n (nat_lt (length a.linked) MAX_LINKED) _ _
      (record { linked = link_runs (new_thread p.heads t m args) a.linked g f.linked; few = link_few n (new_thread p.heads t m args) a.linked refl f.few; sent = f.sent })
      (record { linked = f.linked; few = f.few; sent = ended_runs s t FullEnd a.sent f.sent })
  order_applied s n a (order.Arrive t) f g = record { linked = link_runs t a.linked g.0 f.linked; few = link_few n t a.linked g.1 f.few; sent = f.sent }
  order_applied s n a (order.Stop t) f g =
      let less = unlink_few t a.linked in
      let few = f.few in
      applied_one n (is_linked t a.linked) _ _
      (record { linked = unlink_runs t a.linked f.linked; few = omega (arith, less, few); sent = ended_runs s t Stopped a.sent f.sent })
      (record { linked = f.linked; few = f.few; sent = f.sent })
  order_applied s n a (order.Suspend t) f g =
      let less = suspend_few t true a.linked in
      let few = f.few in
      applied_one n (is_linked t a.linked) _ _
      (record { linked = suspend_runs t true a.linked f.linked; few = omega (arith, less, few); sent = f.sent })
      (record { linked = f.linked; few = f.few; sent = f.sent })
  order_applied s n a (order.Resume t) f g =
      let less = suspend_few t false a.linked in
      let few = f.few in
      applied_one n (is_linked t a.linked) _ _
      (record { linked = suspend_runs t false a.linked f.linked; few = omega (arith, less, few); sent = f.sent })
      (record { linked = f.linked; few = f.few; sent = f.sent })
  order_applied s n a (order.Broadcast e v) f g = record { linked = f.linked; few = f.few; sent = f.sent }
  order_applied s n a (order.Ended t end) f g = record { linked = f.linked; few = f.few; sent = f.sent }

  orders_applied : (s : SchedId) (n : ℕ) (a : Applied) (os : List Order) → AppliedRuns n a → Each (OrderRuns p l) os → AppliedRuns n (apply_orders p.heads s a os)
  orders_applied s n a [] f g = f
  orders_applied s n a (o ∷ os) f g = orders_applied s n (apply_order p.heads s a o) os (order_applied s n a o f g.0) g.1

  -- ---- the close

  begin_in : (budget : ℕ) (ss : List Standing) → runners_in (map (runner_of budget) ss) ≡ linked_in ss
  begin_in budget [] = refl
  begin_in budget (q ∷ ss) = ap (λ n. depth p l q.thread.frames + n) (begin_in budget ss)

  begin_runs : (budget : ℕ) (ss : List Standing) → Each StandingRuns ss → Each RunnerRuns (map (runner_of budget) ss)
  begin_runs budget [] f = tt
  begin_runs budget (q ∷ ss) f = (f.0, begin_runs budget ss f.1)

  closed_one : (suspended : Bool) (t : Thread) → ThreadBegun l t → ThreadBegun l (if suspended then t else record t { wait = closed_wait t.wait })
  closed_one true t f = f
  closed_one false t f = f

  closed_in : (suspended : Bool) (t : Thread) → depth p l (if suspended then t else record t { wait = closed_wait t.wait }).frames ≡ depth p l t.frames
  closed_in true t = refl
  closed_in false t = refl

  stay_one : (r : Runner) (leaving : Option To) (rest : List Runner) → GoingRuns leaving r.thread → Each StandingRuns (map closed rest) → Each StandingRuns (map closed (cond (not (is_some leaving)) (r ∷ rest) rest))
  stay_one r None rest f g = (closed_one r.suspended r.thread f, g)
  stay_one r (Some to) rest f g = g

  linked_closed : (rs : List Runner) → Each RunnerRuns rs → Each StandingRuns (map closed (filter stays rs))
  linked_closed [] f = tt
  linked_closed (r ∷ rs) f = stay_one r r.leaving (filter stays rs) f.0 (linked_closed rs f.1)

  stay_few : (r : Runner) (leaving : Option To) (rest : List Runner) (n : ℕ) → linked_in (map closed rest) ≤ n → linked_in (map closed (cond (not (is_some leaving)) (r ∷ rest) rest)) ≤ depth p l r.thread.frames + n
  stay_few r None rest n f = let e = closed_in r.suspended r.thread in omega (arith, e, f)
  stay_few r (Some to) rest n f = omega (arith, f)

  pub closed_few : (rs : List Runner) → linked_in (map closed (filter stays rs)) ≤ runners_in rs
  closed_few [] = omega arith
  closed_few (r ∷ rs) = stay_few r r.leaving (filter stays rs) (runners_in rs) (closed_few rs)

  leaver_one : (t : Thread) (leaving : Option To) → GoingRuns leaving t → Each SentRuns (leaver t leaving)
  leaver_one t None f = tt
  leaver_one t (Some to) f = (f, tt)

  leavers_run : (rs : List Runner) → Each RunnerRuns rs → Each SentRuns (leavers rs)
  leavers_run [] f = tt
  leavers_run (r ∷ rs) f = each_append SentRuns (leaver r.thread r.leaving) (leavers rs) (leaver_one r.thread r.leaving f.0) (leavers_run rs f.1)

  -- ---- threads that are inside

  inside_few : (fs : _) → one (has_inside p l fs) ≤ depth p l fs
  inside_few [] = omega arith
  inside_few (f ∷ fs) = by (inside_at p l f.module f.stop) (inside_few fs)
    where
      by : (b : Bool) → one (has_inside p l fs) ≤ depth p l fs → one (b || has_inside p l fs) ≤ one b + depth p l fs
      by true e = omega arith
      by false e = omega (arith, e)

  pub outside_is : (t : Thread) → IsOutside p l t → is_inside p l t ≡ false
  outside_is t f = by (is_inside p l t) (inside_few t.frames)
    where
      by : (b : Bool) → one b ≤ depth p l t.frames → b ≡ false
      by true e = let none = f.1 in absurd (omega (arith, e, none))
      by false e = refl

  pub runners_few : (rs : List Runner) → insiders p l (map (λ (r : Runner). r.thread) rs) ≤ runners_in rs
  runners_few [] = omega arith
  runners_few (r ∷ rs) = let a = inside_few r.thread.frames in let b = runners_few rs in omega (arith, a, b)

  pub linked_few : (qs : List Standing) → insiders p l (map (λ (q : Standing). q.thread) qs) ≤ linked_in qs
  linked_few [] = omega arith
  linked_few (q ∷ qs) = let a = inside_few q.thread.frames in let b = linked_few qs in omega (arith, a, b)

module _ (p : Resolved) (l : Lock) (is : IsExpanded p l) (well : IsPlacedTree p) (L : Option ℤ → ℕ → Type 0) (level : IsLevel L) where
  abbrev x : Prog
  x = Tree p

  abbrev Room : Place → Around → ℕ → Type 0
  Room place around n = AroundRuns p l L level place around n

  -- ---- runs

  module _ (s : SchedId) where
    -- the threads after a run of one, beside others
    after_one : (r : Runner) (o : Outcome) (others : ℕ) → r.leaving ≡ None → RunsTo p l L level (Sched s) others o → Each (RunnerRuns p l) (runners_after r o) × Room (Sched s) (around_after o) (runners_in p l (runners_after r o) + others)
    after_one r (Held t around left) others e f =
        let n : depth p l t.frames + others ≡ depth p l t.frames + 0 + others = omega arith in
        ((subst (λ leaving. GoingRuns p l leaving t) (sym e) f.0, tt), subst (λ m. Room (Sched s) around m) n f.1)
    after_one r (Left t to around left) others e f =
        let none = f.1 in
        let n : others ≡ depth p l t.frames + 0 + others = omega (arith, none) in
        (((f.0, f.1), tt), subst (λ m. Room (Sched s) around m) n f.2)
    after_one r (Ended end around left) others e f =
        let n : others ≡ 0 + others = omega arith in
        (tt, subst (λ m. Room (Sched s) around m) n f)

    going_begun : (r : Runner) → r.leaving ≡ None → RunnerRuns p l r → ThreadBegun l r.thread
    going_begun r e f = subst (λ leaving. GoingRuns p l leaving r.thread) e f

    -- The moment of an instant: its threads stand, each has begun so, and with what stands around them they are no more inside
    -- than the level allows.
    pub record MomentRuns (m : Moment) : Type 0 where
      pub fits : Each (RunnerFits x s) m.runners
      pub around : AroundFits p.heads (Sched s) m.around
      pub runners : Each (RunnerRuns p l) m.runners
      pub room : Room (Sched s) m.around (runners_in p l m.runners)

    -- each run of a thread keeps it
    pub moments_run : IsKeptByRuns x MomentRuns
    moments_run front r rest around ready f =
        let o = run_of x r.thread around r.left in
        let fits = each_parted (RunnerFits x s) front r rest f.fits in
        let runs = each_parted (RunnerRuns p l) front r rest f.runners in
        let stands = ready_fits x s r around fits.1.0 ready in
        let leaves = run_leaves x well r.thread (Sched s) around r.left stands.1.0 stands.1.1 f.around in
        let others = runners_in p l front + runners_in p l rest in
        let was = runners_append p l front (r ∷ rest) in
        let before : runners_in p l (front ++ r ∷ rest) ≡ depth p l r.thread.frames + others = omega (arith, was) in
        let begun = going_begun r stands.0 runs.1.0 in
        let run = run_runs p l is well L level (Sched s) others r.thread around r.left stands.1.0 begun (subst (λ n. Room (Sched s) around n) before f.room) in
        let done = after_one r o others stands.0 run in
        let inner = runners_append p l (runners_after r o) rest in
        let all = runners_append p l front (runners_after r o ++ rest) in
        let now : runners_in p l (runners_after r o) + others ≡ runners_in p l (front ++ (runners_after r o ++ rest)) = omega (arith, inner, all) in
        record {
          fits = each_append (RunnerFits x s) front (runners_after r o ++ rest) fits.0 (runners_fit x s r o rest stands.0 leaves fits.1.1);
          around = around_fits x s o leaves;
          runners = each_append (RunnerRuns p l) front (runners_after r o ++ rest) runs.0 (each_append (RunnerRuns p l) (runners_after r o) rest done.0 runs.1.1);
          room = subst (λ n. Room (Sched s) (around_after o) n) now done.1;
        }

  -- ---- instants

  -- a scheduler between two instants
  pub record MachRuns (m : Mach) : Type 0 where
    pub linked : Each (StandingRuns p l) m.linked
    pub allows : Allows p l L level (Sched m.s) (held_in p.heads l m.shared) (linked_in p l m.linked)

  -- the first moment of an instant
  pub first_runs : (limits : Limits) (m : Mach) (batch : List Order) → MachFits x m → MachRuns m → Each (Fits x m.s) batch → Each (OrderRuns p l) batch
      → let a = apply x m batch in MomentRuns m.s (moment (map (runner_of limits.budget) a.linked) (around_of m a))
  first_runs limits m batch f g fits runs =
      let a = apply x m batch in
      let mine = orders_applied p l m.s (linked_in p l m.linked) (unapplied p.heads m) batch (record { linked = g.linked; few = omega arith; sent = tt }) runs in
      let begins = begin_in p l limits.budget a.linked in
      let few = mine.few in
      let n : runners_in p l (map (runner_of limits.budget) a.linked) ≤ linked_in p l m.linked = omega (arith, begins, few) in
      record {
        fits = begin_fit x m.s limits.budget a.linked (batch_applied x well m batch f fits).linked;
        around = first_around x well m batch f fits;
        runners = begin_runs p l limits.budget a.linked mine.linked;
        room = record { allows = allows_less p l L level (Sched m.s) (held_in p.heads l m.shared) (runners_in p l (map (runner_of limits.budget) a.linked)) (linked_in p l m.linked) n g.allows; acts = tt };
      }

  -- what the close leaves
  pub closed_runs : (limits : Limits) (m : Mach) (batch : List Order) → let a = apply x m batch in MomentRuns m.s (end_of (passes x (map (runner_of limits.budget) a.linked) (around_of m a))) → MachRuns (instant x limits m batch).machine
  unfolding instant
  closed_runs limits m batch last =
      let a = apply x m batch in
      let w = passes x (map (runner_of limits.budget) a.linked) (around_of m a) in
      let few = closed_few p l w.runners in
      record {
        linked = linked_closed p l w.runners last.runners;
        allows = allows_less p l L level (Sched m.s) (held_in p.heads l w.around.shared) (linked_in p l (map closed (filter stays w.runners))) (runners_in p l w.runners) few last.room.allows;
      }

  pub record AfterRuns (m : Mach) (sent : List Sent) : Type 0 where
    pub machine : MachRuns m
    pub sents : Each (SentRuns p l) sent

  pub instant_runs : (limits : Limits) (m : Mach) (batch : List Order) → MachFits x m → MachRuns m → Each (Fits x m.s) batch → Each (OrderRuns p l) batch
      → AfterRuns (instant x limits m batch).machine (instant x limits m batch).note.sent
  unfolding instant
  instant_runs limits m batch f g fits runs =
      let a = apply x m batch in
      let rs = map (runner_of limits.budget) a.linked in
      let mine = orders_applied p l m.s (linked_in p l m.linked) (unapplied p.heads m) batch (record { linked = g.linked; few = omega arith; sent = tt }) runs in
      let w = passes x rs (around_of m a) in
      let last = kept_by_passes x (MomentRuns m.s) (moments_run m.s) rs (around_of m a) (first_runs limits m batch f g fits runs) in
      record {
        machine = closed_runs limits m batch last;
        sents =
            each_append (SentRuns p l) a.sent (sent_by (Sched m.s) w.around.acts ++ leavers w.runners) mine.sent
            (each_append (SentRuns p l) (sent_by (Sched m.s) w.around.acts) (leavers w.runners) (acts_run p l (Sched m.s) w.around.acts last.room.acts) (leavers_run p l w.runners last.runners));
      }

  -- ---- unlinked threads

  not_there : Unlinked ≡ Sched l.at → ⊥
  not_there e = cc

  block_runs : (o : Outcome) → RunsTo p l L level Unlinked 0 o → Each (SentRuns p l) (block_sent o)
  block_runs (Held t around left) f = acts_run p l Unlinked around.acts f.1.acts
  block_runs (Left t to around left) f = each_append (SentRuns p l) (sent_by Unlinked around.acts) _ (acts_run p l Unlinked around.acts f.2.acts) ((f.0, f.1), tt)
  block_runs (Ended end around left) f = acts_run p l Unlinked around.acts f.acts

  pub async_runs : (t : Thread) (block : ℕ) → ThreadFits x Unlinked t → IsOutside p l t → Each (SentRuns p l) (async x t block)
  async_runs t block fits f =
      let none = f.1 in
      block_runs (run_of x t (alone x) block)
      (run_runs p l is well L level Unlinked 0 t (alone x) block fits.0 f.0 (record { allows = inr (not_there, omega (arith, none)); acts = tt }))
