-- An instant on a machine whose threads stand leaves one whose threads stand, and all that it sends fits.
use Rattle.std.proofs.Common.{◌≡◌, ℕ, zero, suc, inl, inr, Bool, true, false, cond, List, [], ◌∷◌, ◌++◌, map, filter, length, reverse, Option, Some, None, refl, sym, ap, subst, arith}
use Rattle.std.specs.Prelude.{ℤ, pos, negsuc, ◌≤ℤ◌, if◌then◌else◌, not, ◌&&◌, is_some}
use Rattle.std.specs.Prelude.{All}
use Rattle.std.specs.Option.{option_map}
use Rattle.std.proofs.lemmas.Int.{ints}
use Rattle.std.proofs.lemmas.List.{length-replicate}
use Rattle.loft_history.specs.History.{orders_to}
use Rattle.loft_base.specs.declared.ids.SchedId.{SchedId}
use Rattle.loft_tree.specs.declared.heads.Place.{Place}
use Rattle.loft_tree.specs.declared.heads.Place.TheVariants.{Sched, Unlinked}
use Rattle.loft_tree.specs.declared.heads.Heads.{Heads}
use Rattle.loft_tree.specs.Fits.{Each}
use Rattle.loft_tree.specs.NamedFits.{IsScheduler}
use Rattle.loft_tree.specs.Resolved.{Exp, Pause, Cooperate, Await, Get, Join, Link, Unlink, Halt}
use Rattle.loft_base.specs.declared.options.Limits.{Limits}
use Rattle.loft_orders.specs.declared.note.Standing.{Standing}
use Rattle.loft_orders.specs.declared.order.Order.{Order}
use Rattle.loft_orders.specs.declared.order.Sent.{Sent}
use Rattle.loft_orders.specs.declared.order.To.{To}
use Rattle.loft_orders.specs.declared.thread.Frame.{Frame}
use Rattle.loft_orders.specs.declared.thread.Thread.{Thread}
use Rattle.loft_orders.specs.declared.thread.Wait.{Wait}
use Rattle.loft_orders.specs.declared.thread.Wait.TheVariants as wait
use Rattle.loft_sense.specs.Machine.{Prog, heads, Mach, empty}
use Rattle.loft_sense.specs.Around.{Around}
use Rattle.loft_sense.specs.CanGo.{can_go}
use Rattle.loft_sense.specs.Run.{Outcome, Held, Left, Ended}
use Rattle.loft_sense.specs.Stands.{StopKind, Begins, Pauses, Calls, LeftAgrees, PauseAgrees, WaitAgrees, FramesStand, Stands}
use Rattle.loft_sense.specs.Fits.{WaitNames, ThreadNames, Fits}
use Rattle.loft_sense.specs.Passes.{Runner, Walk, is_ready, run_of, runners_after, around_after, walked, pass, passes_within, steps_left, passes}
use Rattle.loft_sense.specs.Apply.{unapplied, apply}
use Rattle.loft_sense.specs.Instant.{runner_of, around_of, lowered, closed_wait, closed, stays, leaver, leavers, sent_by, instant}
use Rattle.loft_history.specs.Clients.{outside_of}
use Rattle.loft_sense.specs.Async.{alone, block_sent, async}
use Rattle.loft_soundness.specs.Points.{AroundFits, LeavesStanding}
use Rattle.loft_soundness.specs.Machines.{ThreadFits, MachFits, SentFits}
use Rattle.loft_soundness.specs.WellFormed.{IsWellFormed}
use Rattle.loft_soundness.proofs.ListLemmas.{each_append, all_of, each_of}
use Rattle.loft_soundness.proofs.ProgramLemmas.{leads_to_points}
use Rattle.loft_soundness.proofs.StandLemmas.{run_leaves}
use Rattle.loft_soundness.proofs.OrderLemmas.{outside_fits, acts_fit, Leaves, leaver_fits, orders_fit, AppliedFits, Linked, orders_applied}

-- ---- passes

module _ (x : Prog) (s : SchedId) where
  -- a thread that is still linked stands here; one that leaves stands where it goes
  abbrev pub Going : Option To → Thread → Type 0
  Going None t = ThreadFits x (Sched s) t
  Going (Some to) t = Leaves x t to

  abbrev pub RunnerFits : Runner → Type 0
  RunnerFits r = Going r.leaving r.thread

  pub record WalkFits (w : Walk) : Type 0 where
    pub runners : Each RunnerFits w.runners
    pub around : AroundFits (heads x) (Sched s) w.around

  pub runners_fit : (r : Runner) (o : Outcome) (rest : List Runner) → r.leaving ≡ None → LeavesStanding x (Sched s) o → Each RunnerFits rest → Each RunnerFits (runners_after r o ++ rest)
  runners_fit r (Held t around left) rest e f g = (subst (λ leaving. Going leaving t) (sym e) (f.0, f.1), g)
  runners_fit r (Left t to around left) rest e f g = ((f.0, f.1, f.2), g)
  runners_fit r (Ended end around left) rest e f g = g

  pub around_fits : (o : Outcome) → LeavesStanding x (Sched s) o → AroundFits (heads x) (Sched s) (around_after o)
  around_fits (Held t around left) f = f.2
  around_fits (Left t to around left) f = f.3
  around_fits (Ended end around left) f = f.1

  -- each walk over these threads
  abbrev PassesFit : List Runner → Type 0
  PassesFit rs = (around : Around) → AroundFits (heads x) (Sched s) around → WalkFits (pass x rs around)

  walk_fits : (r : Runner) (rs : List Runner) (around : Around) (goes : Bool) (o : Outcome) → PassesFit rs → RunnerFits r → AroundFits (heads x) (Sched s) around
      → (goes ≡ true → (r.leaving ≡ None) × LeavesStanding x (Sched s) o)
      → WalkFits (if goes then walked (runners_after r o) true (pass x rs (around_after o)) else walked (r ∷ []) false (pass x rs around))
  walk_fits r rs around true o rest f a run =
      let w = rest (around_after o) (around_fits o (run refl).1) in
      record { runners = runners_fit r o (pass x rs (around_after o)).runners (run refl).0 (run refl).1 w.runners; around = w.around }
  walk_fits r rs around false o rest f a run = record { runners = (f, (rest around a).runners); around = (rest around a).around }

  -- one that is ready doesn't leave
  ready_stays : (t : Thread) (suspended : Bool) (around : Around) (leaving : Option To) → (not (is_some leaving) && can_go t.wait suspended around.board around.known) ≡ true → leaving ≡ None
  ready_stays t suspended around None e = refl
  ready_stays t suspended around (Some to) e = absurd cc

  pub ready_fits : (r : Runner) (around : Around) → RunnerFits r → is_ready r around ≡ true → (r.leaving ≡ None) × ThreadFits x (Sched s) r.thread
  ready_fits r around f e =
      let here : r.leaving ≡ None = ready_stays r.thread r.suspended around r.leaving e in
      (here, subst (λ leaving. Going leaving r.thread) here f)

  one_fits : (b : Bool) (v w : Walk) → WalkFits v → WalkFits w → WalkFits (if b then v else w)
  one_fits true v w f g = f
  one_fits false v w f g = g

-- ---- the close

lowered_not_below : (i : ℤ) → pos 0 ≤ℤ i → pos 0 ≤ℤ lowered i
lowered_not_below (pos zero) h = omega (arith, ints)
lowered_not_below (pos (suc i)) h = omega (arith, ints)
lowered_not_below (negsuc i) h = h

left_lowered : (limit : Option Exp) (left : Option ℤ) → LeftAgrees limit left → LeftAgrees limit (option_map lowered left)
left_lowered None None f = tt
left_lowered None (Some i) f = absurd f
left_lowered (Some e) None f = absurd f
left_lowered (Some e) (Some i) f = lowered_not_below i f

pause_closed : (pause : Pause) (w : Wait) → PauseAgrees pause w → PauseAgrees pause (closed_wait w)
pause_closed (Cooperate instants) w f = (lowered f.0, ap closed_wait f.1, lowered_not_below f.0 f.2)
pause_closed (Await events limit) w f = (option_map lowered f.0, ap closed_wait f.1, left_lowered limit f.0 f.2)
pause_closed (Get event index target) w (inl e) = inl (ap closed_wait e)
pause_closed (Get event index target) w (inr f) = inl (ap closed_wait f.1)
pause_closed (Join thread limit) w f = (f.0, option_map lowered f.1, ap closed_wait f.2, left_lowered limit f.1 f.3)
pause_closed (Link s) w f = ap closed_wait f
pause_closed Unlink w f = ap closed_wait f
pause_closed Halt w f = ap closed_wait f

kind_closed : (kind : StopKind) (w : Wait) → WaitAgrees kind w → WaitAgrees kind (closed_wait w)
kind_closed Begins w f = ap closed_wait f
kind_closed (Pauses pause) w f = pause_closed pause w f
kind_closed (Calls m) w f = absurd f

names_closed : (h : Heads) (w : Wait) → WaitNames h w → WaitNames h (closed_wait w)
names_closed h wait.New f = tt
names_closed h (wait.Coop left) f = tt
names_closed h (wait.Events events left) f = tt
names_closed h (wait.Index event i) f = tt
names_closed h wait.Next f = tt
names_closed h (wait.Join t left) f = f
names_closed h wait.Halt f = tt

frames_closed : (x : Prog) (w : Wait) (place : Place) (fs : List Frame) → FramesStand x w place fs → FramesStand x (closed_wait w) place fs
frames_closed x w place [] f = absurd f
frames_closed x w place (g ∷ fs) f = ((f.0.0, f.0.1, kind_closed f.0.0.kind w f.0.2, f.0.3), f.1)

thread_closed : (x : Prog) (place : Place) (t : Thread) → ThreadFits x place t → ThreadFits x place (record t { wait = closed_wait t.wait })
thread_closed x place t f =
    let stands : Stands x (record t { wait = closed_wait t.wait }) place = record { few = f.0.few; frames = frames_closed x t.wait place (reverse t.frames) f.0.frames } in
    let names : ThreadNames (heads x) (record t { wait = closed_wait t.wait }) = record { id = f.1.id; wait = names_closed (heads x) t.wait f.1.wait; values = f.1.values } in
    (stands, names)

module _ (x : Prog) (s : SchedId) where
  closed_one : (suspended : Bool) (t : Thread) → ThreadFits x (Sched s) t → ThreadFits x (Sched s) (if suspended then t else record t { wait = closed_wait t.wait })
  closed_one true t f = f
  closed_one false t f = thread_closed x (Sched s) t f

  stay_one : (r : Runner) (leaving : Option To) (rest : List Runner) → Going x s leaving r.thread → Each (Linked x s) (map closed rest) → Each (Linked x s) (map closed (cond (not (is_some leaving)) (r ∷ rest) rest))
  stay_one r None rest f g = (closed_one r.suspended r.thread f, g)
  stay_one r (Some to) rest f g = g

  linked_closed : (rs : List Runner) → Each (RunnerFits x s) rs → Each (Linked x s) (map closed (filter stays rs))
  linked_closed [] f = tt
  linked_closed (r ∷ rs) f = stay_one r r.leaving (filter stays rs) f.0 (linked_closed rs f.1)

  leaver_one : (t : Thread) (leaving : Option To) → Going x s leaving t → Each (SentFits x) (leaver t leaving)
  leaver_one t None f = tt
  leaver_one t (Some to) f = (leaver_fits x t to f, tt)

  leavers_fit : (rs : List Runner) → Each (RunnerFits x s) rs → Each (SentFits x) (leavers rs)
  leavers_fit [] f = tt
  leavers_fit (r ∷ rs) f = each_append (SentFits x) (leaver r.thread r.leaving) (leavers rs) (leaver_one r.thread r.leaving f.0) (leavers_fit rs f.1)

  pub begin_fit : (budget : ℕ) (ss : List Standing) → Each (Linked x s) ss → Each (RunnerFits x s) (map (runner_of budget) ss)
  begin_fit budget [] f = tt
  begin_fit budget (q ∷ ss) f = (f.0, begin_fit budget ss f.1)

-- what an unlinked thread finds around it
pub alone_fits : (x : Prog) → AroundFits (heads x) Unlinked (alone x)
alone_fits x = record { declared = tt; there = refl; board = length-replicate (length (heads x).events) None; acts = tt }

module _ (x : Prog) (well : IsWellFormed x) where
  pub pass_fits : (s : SchedId) (rs : List Runner) → Each (RunnerFits x s) rs → PassesFit x s rs
  pass_fits s [] f around a = record { runners = tt; around = a }
  pass_fits s (r ∷ rs) f around a =
      walk_fits x s r rs around (is_ready r around) (run_of x r.thread around r.left) (pass_fits s rs f.1) f.0 a
      (λ e.
      let is = ready_fits x s r around f.0 e in
      (is.0, run_leaves x well r.thread (Sched s) around r.left is.1.0 is.1.1 a))

  within_fits : (s : SchedId) (k : ℕ) (rs : List Runner) → Each (RunnerFits x s) rs → (around : Around) → AroundFits (heads x) (Sched s) around
      → WalkFits x s (passes_within k x rs around)
  within_fits s zero rs f around a = pass_fits s rs f around a
  within_fits s (suc k) rs f around a =
      let first = pass x rs around in
      let w = pass_fits s rs f around a in
      one_fits x s first.ran (passes_within k x first.runners first.around) first (within_fits s k first.runners w.runners first.around w.around) w

  passes_fit : (s : SchedId) (rs : List Runner) → Each (RunnerFits x s) rs → (around : Around) → AroundFits (heads x) (Sched s) around
      → WalkFits x s (passes x rs around)
  unfolding passes
  passes_fit s rs f around a = within_fits s (steps_left rs) rs f around a

  -- ---- instants

  -- what a batch that fits leaves
  pub batch_applied : (m : Mach) (batch : List Order) → MachFits x m → Each (Fits x m.s) batch → AppliedFits x m.s (apply x m batch)
  batch_applied m batch f g =
      orders_applied x m.s (leads_to_points x well) (unapplied (heads x) m) batch (record { linked = f.linked; board = length-replicate (length (heads x).events) None; sent = tt }) g

  -- what the first thread finds around it
  pub first_around : (m : Mach) (batch : List Order) → MachFits x m → Each (Fits x m.s) batch → AroundFits (heads x) (Sched m.s) (around_of m (apply x m batch))
  first_around m batch f g = record { declared = f.declared; there = refl; board = (batch_applied m batch f g).board; acts = tt }

  -- a machine and what its instant sends
  pub record AfterFits (m : Mach) (sent : List Sent) : Type 0 where
    pub machine : MachFits x m
    pub sents : Each (SentFits x) sent

  pub instant_fits : (limits : Limits) (m : Mach) (batch : List Order) → MachFits x m → Each (Fits x m.s) batch
      → AfterFits (instant x limits m batch).machine (instant x limits m batch).note.sent
  unfolding instant
  instant_fits limits m batch f g =
      let a = apply x m batch in
      let applied = batch_applied m batch f g in
      let rs = map (runner_of limits.budget) a.linked in
      let last = passes x rs (around_of m a) in
      let w = passes_fit m.s rs (begin_fit x m.s limits.budget a.linked applied.linked) (around_of m a) (first_around m batch f g) in
      record {
        machine = record { declared = f.declared; linked = linked_closed x m.s last.runners w.runners };
        sents =
            each_append (SentFits x) a.sent (sent_by (Sched m.s) last.around.acts ++ leavers last.runners) applied.sent
            (each_append (SentFits x) (sent_by (Sched m.s) last.around.acts) (leavers last.runners)
            (acts_fit x (Sched m.s) last.around.acts w.around.acts) (leavers_fit x m.s last.runners w.runners));
      }

  -- ---- unlinked threads

  block_fits : (o : Outcome) → LeavesStanding x Unlinked o → Each (SentFits x) (block_sent o)
  block_fits (Held t around left) f = acts_fit x Unlinked around.acts f.2.acts
  block_fits (Left t to around left) f =
      each_append (SentFits x) (sent_by Unlinked around.acts) _ (acts_fit x Unlinked around.acts f.3.acts) (leaver_fits x t to (f.0, f.1, f.2), tt)
  block_fits (Ended end around left) f = acts_fit x Unlinked around.acts f.1.acts

  pub async_fits : (t : Thread) (block : ℕ) → ThreadFits x Unlinked t → Each (SentFits x) (async x t block)
  async_fits t block f = block_fits (run_of x t (alone x) block) (run_leaves x well t Unlinked (alone x) block f.0 f.1 (alone_fits x))

-- ---- as laws say it

-- all that is sent fits, and at each scheduler that to which it is addressed
abbrev AllFit : Prog → List Sent → Type 0
AllFit x sent = All (SentFits x) sent × ((s : SchedId) → IsScheduler (heads x) s → All (Fits x s) (orders_to s sent))

all_fit : (x : Prog) (sent : List Sent) → Each (SentFits x) sent → AllFit x sent
all_fit x sent f = (all_of (SentFits x) sent f, λ s declared. all_of (Fits x s) (orders_to s sent) (orders_fit x s declared sent f))

pub empty_fits : (x : Prog) (s : SchedId) → IsScheduler (heads x) s → MachFits x (empty x s)
empty_fits x s declared = record { declared = declared; linked = tt }

pub machine_fits : (x : Prog) → IsWellFormed x → (limits : Limits) (m : Mach) (batch : List Order) → MachFits x m → All (Fits x m.s) batch
    → MachFits x (instant x limits m batch).machine
machine_fits x well limits m batch f g = (instant_fits x well limits m batch f (each_of (Fits x m.s) batch g)).machine

pub sent_fits : (x : Prog) → IsWellFormed x → (limits : Limits) (m : Mach) (batch : List Order) → MachFits x m → All (Fits x m.s) batch
    → AllFit x (instant x limits m batch).note.sent
sent_fits x well limits m batch f g =
    all_fit x (instant x limits m batch).note.sent (instant_fits x well limits m batch f (each_of (Fits x m.s) batch g)).sents

pub unlinked_fits : (x : Prog) → IsWellFormed x → (t : Thread) (block : ℕ) → ThreadFits x Unlinked t → AllFit x (async x t block)
unlinked_fits x well t block f = all_fit x (async x t block) (async_fits x well t block f)

pub outside_all_fit : (x : Prog) → IsWellFormed x → (c : ℕ) → AllFit x (outside_of (heads x) c)
outside_all_fit x well c = all_fit x (outside_of (heads x) c) (outside_fits x well c)
