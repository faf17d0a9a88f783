-- An instant keeps threads.
use Rattle.std.proofs.Common.{◌≡◌, ℕ, zero, suc, ◌+◌, ◌≤◌, Bool, true, false, cond, List, [], ◌∷◌, ◌++◌, map, filter, Option, Some, None, refl, sym, subst, ap, ◌∙◌, arith}
use Rattle.std.specs.Prelude.{if◌then◌else◌, not, is_some, All}
use Rattle.loft_base.specs.declared.ids.Maker.TheVariants as maker
use Rattle.loft_base.specs.declared.ids.SchedId.{SchedId}
use Rattle.loft_base.specs.declared.ids.ThreadId.{ThreadId}
use Rattle.loft_tree.specs.declared.heads.Heads.{Heads}
use Rattle.loft_tree.specs.declared.heads.Place.{Place}
use Rattle.loft_tree.specs.declared.heads.Place.TheVariants.{Sched}
use Rattle.loft_tree.specs.Fits.{Each}
use Rattle.loft_base.specs.declared.options.Limits.{Limits}
use Rattle.loft_orders.specs.declared.note.Act.TheVariants as act
use Rattle.loft_orders.specs.declared.note.Standing.{Standing}
use Rattle.loft_orders.specs.declared.order.End.{End}
use Rattle.loft_orders.specs.declared.order.Order.{Order}
use Rattle.loft_orders.specs.declared.order.Order.TheVariants as order
use Rattle.loft_orders.specs.declared.order.Sent.{Sent}
use Rattle.loft_orders.specs.declared.order.To.{To}
use Rattle.loft_orders.specs.declared.order.To.TheVariants as to
use Rattle.loft_orders.specs.declared.thread.Thread.{Thread}
use Rattle.loft_sense.specs.Machine.{Prog, heads, Mach}
use Rattle.loft_sense.specs.Around.{Around}
use Rattle.loft_sense.specs.CanGo.{same_thread}
use Rattle.loft_sense.specs.Run.{Outcome, Held, Left, Ended}
use Rattle.loft_sense.specs.Fits.{Fits}
use Rattle.loft_sense.specs.Statements.{maker_at}
use Rattle.loft_sense.specs.Passes.{Runner, Walk, is_ready, run_of, runners_after, around_after, walked, pass, passes_within, steps_left, passes}
use Rattle.loft_sense.specs.Apply.{tell_end, unapplied, apply}
use Rattle.loft_sense.specs.Instant.{runner_of, around_of, closed_wait, closed_thread, closed, stays, leaver, leavers, sent_by, instant}
use Rattle.loft_soundness.specs.WellFormed.{IsWellFormed}
use Rattle.loft_soundness.specs.Points.{AroundFits}
use Rattle.loft_soundness.specs.Machines.{MachFits}
use Rattle.loft_soundness.proofs.ListLemmas.{each_append, each_of}
use Rattle.loft_soundness.proofs.StandLemmas.{run_leaves}
use Rattle.loft_soundness.proofs.InstantLemmas.{RunnerFits, around_fits, ready_fits, pass_fits, begin_fit, batch_applied, first_around}
use Rattle.loft_conservation.specs.Counts.{one, linked_in, made_in, carried_in, ended_in, among_made}
use Rattle.loft_conservation.specs.Adds.{Adds, RunAdds, IsWay, LeavesBy}
use Rattle.loft_conservation.specs.Instants.{IsSentWell, SentWell, KeepsThreads}
use Rattle.loft_conservation.proofs.CountLemmas.{made_in-append, carried_in-append, ended_in-append, sent_by-append, plain_sent, plain_carried, plain_ended, none_made, numbers_join}
use Rattle.loft_conservation.proofs.RunAdds.{run_adds}
use Rattle.loft_conservation.proofs.ApplyKeeps.{tells, one_ended, orders_kept, orders_end}
use Rattle.loft_conservation.proofs.ActLemmas.{acts_well}
use Rattle.loft_conservation.proofs.WayLemmas.{run_leaves_by}

-- ---- runs

-- how often the thread is among those that are linked in an instant
abbrev runs_in : ThreadId → List Runner → ℕ
runs_in t [] = 0
runs_in t (r ∷ rs) = one (same_thread t r.thread.id) + runs_in t rs

runs_in-append : (t : ThreadId) (xs ys : List Runner) → runs_in t (xs ++ ys) ≡ runs_in t xs + runs_in t ys
runs_in-append t [] ys = omega arith
runs_in-append t (r ∷ xs) ys = let e = runs_in-append t xs ys in omega (arith, e)

module _ (s : SchedId) where
  -- what acts send here
  abbrev sent_here : Around → List Sent
  sent_here a = sent_by (Sched s) a.acts

  -- what runs of threads of this scheduler add
  record Grows (a b : Around) : Type 0 where
    place : b.place ≡ a.place
    carried : (t : ThreadId) → carried_in t (sent_here b) ≡ carried_in t (sent_here a)
    up : a.made ≤ b.made
    fresh : (t : ThreadId) → made_in t (sent_here b) ≡ made_in t (sent_here a) + among_made t (maker.Sched s.0) a.made b.made

  still : (a : Around) → Grows a a
  still a = record { place = refl; carried = λ t. refl; up = omega arith; fresh = λ t. let e = none_made t (maker.Sched s.0) a.made in omega (arith, e) }

  joins : (a b c : Around) → Grows a b → Grows b c → Grows a c
  joins a b c p q = record {
    place = q.place ∙ p.place;
    carried = λ t. q.carried t ∙ p.carried t;
    up = let e = p.up in let f = q.up in omega (arith, e, f);
    fresh = λ t.
        let e = p.fresh t in let f = q.fresh t in let g = numbers_join t (maker.Sched s.0) a.made b.made c.made p.up q.up in
        omega (arith, e, f, g);
  }

  sent_more : (a b : Around) (p : Adds a b) → sent_here b ≡ sent_here a ++ sent_by (Sched s) p.more
  sent_more a b p = ap (sent_by (Sched s)) p.is ∙ sent_by-append (Sched s) a.acts p.more

  adds_grow : (a b : Around) → a.place ≡ Sched s → Adds a b → Grows a b
  adds_grow a b at p = record {
    place = p.place;
    carried = λ t.
        let e = ap (carried_in t) (sent_more a b p) in let f = carried_in-append t (sent_here a) (sent_by (Sched s) p.more) in
        let g = plain_carried t (sent_by (Sched s) p.more) (plain_sent (Sched s) p.more p.plain) in
        omega (arith, e, f, g);
    up = p.up;
    fresh = λ t.
        let e = ap (made_in t) (sent_more a b p) in let f = made_in-append t (sent_here a) (sent_by (Sched s) p.more) in
        let g : made_in t (sent_by (Sched s) p.more) ≡ among_made t (maker.Sched s.0) a.made b.made =
        subst (λ (q : Place). made_in t (sent_by q p.more) ≡ among_made t (maker_at q) a.made b.made) at (p.fresh t) in
        omega (arith, e, f, g);
  }

  adds_end_nobody : (t : ThreadId) (a b : Around) → Adds a b → ended_in t (sent_here b) ≡ ended_in t (sent_here a)
  adds_end_nobody t a b p =
      let e = ap (ended_in t) (sent_more a b p) in let f = ended_in-append t (sent_here a) (sent_by (Sched s) p.more) in
      let g = plain_ended t (sent_by (Sched s) p.more) (plain_sent (Sched s) p.more p.plain) in
      omega (arith, e, f, g)

  -- an end
  end_sent : (u : ThreadId) (end : End) (a b : Around) → b.acts ≡ a.acts ++ act.End u end ∷ [] → sent_here b ≡ sent_here a ++ tell_end (Sched s) u end ∷ []
  end_sent u end a b e = ap (sent_by (Sched s)) e ∙ sent_by-append (Sched s) a.acts (act.End u end ∷ [])

  end_grows : (u : ThreadId) (end : End) (a b : Around) → b.acts ≡ a.acts ++ act.End u end ∷ [] → b.made ≡ a.made → b.place ≡ a.place → Grows a b
  end_grows u end a b acts made place = record {
    place = place;
    carried = λ t.
        let e = ap (carried_in t) (end_sent u end a b acts) in let f = carried_in-append t (sent_here a) (tell_end (Sched s) u end ∷ []) in
        omega (arith, e, f);
    up = omega (arith, made);
    fresh = λ t.
        let e = ap (made_in t) (end_sent u end a b acts) in let f = made_in-append t (sent_here a) (tell_end (Sched s) u end ∷ []) in
        let g : among_made t (maker.Sched s.0) a.made b.made ≡ 0 = ap (λ (n : ℕ). among_made t (maker.Sched s.0) a.made n) made ∙ none_made t (maker.Sched s.0) a.made in
        omega (arith, e, f, g);
  }

  module _ (h : Heads) where
    abbrev Goes : Option To → Type 0
    Goes None = Unit {0}
    Goes (Some there) = IsWay h (Sched s) there

    abbrev RunnerGoes : Runner → Type 0
    RunnerGoes r = Goes r.leaving

    -- what a walk over these threads keeps
    record Keeps (rs : List Runner) (a : Around) (qs : List Runner) (b : Around) : Type 0 where
      count : (t : ThreadId) → runs_in t qs + ended_in t (sent_here b) ≡ runs_in t rs + ended_in t (sent_here a)
      grows : Grows a b
      ways : Each RunnerGoes qs

    ran : (r : Runner) (a : Around) (o : Outcome) → a.place ≡ Sched s → r.leaving ≡ None → RunAdds r.thread.id a o → LeavesBy h (Sched s) o → Keeps (r ∷ []) a (runners_after r o) (around_after o)
    ran r a (Held u b left) at none p way = record {
      count = λ t. let e = adds_end_nobody t a b p.2 in let f = ap (λ (v : ThreadId). one (same_thread t v)) p.0 in omega (arith, e, f);
      grows = adds_grow a b at p.2;
      ways = (subst Goes (sym none) tt, tt);
    }
    ran r a (Left u there b left) at none p way = record {
      count = λ t. let e = adds_end_nobody t a b p.1 in let f = ap (λ (v : ThreadId). one (same_thread t v)) p.0 in omega (arith, e, f);
      grows = adds_grow a b at p.1;
      ways = (way, tt);
    }
    ran r a (Ended end b left) at none p way = record {
      count = λ t.
          let e = adds_end_nobody t a p.last p.adds in let f = ap (ended_in t) (end_sent r.thread.id end p.last b p.is) in
          let g = one_ended t r.thread.id end (Sched s) (sent_here p.last) in
          omega (arith, e, f, g);
      grows = joins a p.last b (adds_grow a p.last at p.adds) (end_grows r.thread.id end p.last b p.is p.made p.place);
      ways = tt;
    }

    then_rest : (r : Runner) (rs front qs : List Runner) (a b c : Around) → Keeps (r ∷ []) a front b → Keeps rs b qs c → Keeps (r ∷ rs) a (front ++ qs) c
    then_rest r rs front qs a b c k l = record {
      count = λ t. let p = k.count t in let q = l.count t in let e = runs_in-append t front qs in omega (arith, p, q, e);
      grows = joins a b c k.grows l.grows;
      ways = each_append RunnerGoes front qs k.ways l.ways;
    }

    stood : (rs : List Runner) (a : Around) → Each RunnerGoes rs → Keeps rs a rs a
    stood rs a f = record { count = λ t. refl; grows = still a; ways = f }

    and_then : (rs qs ps : List Runner) (a b c : Around) → Keeps rs a qs b → Keeps qs b ps c → Keeps rs a ps c
    and_then rs qs ps a b c k l = record { count = λ t. l.count t ∙ k.count t; grows = joins a b c k.grows l.grows; ways = l.ways }

-- ---- passes

module _ (x : Prog) (well : IsWellFormed x) (s : SchedId) where
  abbrev KeepsHere : List Runner → Around → Walk → Type 0
  KeepsHere rs a w = Keeps s (heads x) rs a w.runners w.around

  pass_one : (r : Runner) (rs : List Runner) (a : Around) (goes : Bool) (o : Outcome) (v w : Walk) → RunnerGoes s (heads x) r
      → (goes ≡ true → Keeps s (heads x) (r ∷ []) a (runners_after r o) (around_after o) × KeepsHere rs (around_after o) v)
      → (goes ≡ false → KeepsHere rs a w)
      → KeepsHere (r ∷ rs) a (if goes then walked (runners_after r o) true v else walked (r ∷ []) false w)
  pass_one r rs a true o v w way p q = then_rest s (heads x) r rs (runners_after r o) v.runners a (around_after o) v.around (p refl).0 (p refl).1
  pass_one r rs a false o v w way p q = then_rest s (heads x) r rs (r ∷ []) w.runners a a w.around (stood s (heads x) (r ∷ []) a (way, tt)) (q refl)

  pass_keeps : (rs : List Runner) → Each (RunnerFits x s) rs → Each (RunnerGoes s (heads x)) rs → (a : Around) → AroundFits (heads x) (Sched s) a → KeepsHere rs a (pass x rs a)
  pass_keeps [] f ways a fits = stood s (heads x) [] a tt
  pass_keeps (r ∷ rs) f ways a fits =
      let o = run_of x r.thread a r.left in
      pass_one r rs a (is_ready r a) o (pass x rs (around_after o)) (pass x rs a) ways.0
      (λ e.
      let is = ready_fits x s r a f.0 e in
      let stands = run_leaves x well r.thread (Sched s) a r.left is.1.0 is.1.1 fits in (
        ran s (heads x) r a o fits.there is.0 (run_adds x r.thread a r.left) (run_leaves_by x well r.thread (Sched s) a r.left is.1.0 is.1.1 fits),
        pass_keeps rs f.1 ways.1 (around_after o) (around_fits x s o stands),
      ))
      (λ e. pass_keeps rs f.1 ways.1 a fits)

  walk_chosen : (rs : List Runner) (a : Around) (ran : Bool) (v w : Walk) → KeepsHere rs a v → KeepsHere rs a w → KeepsHere rs a (if ran then v else w)
  walk_chosen rs a true v w p q = p
  walk_chosen rs a false v w p q = q

  within_keeps : (n : ℕ) (rs : List Runner) → Each (RunnerFits x s) rs → Each (RunnerGoes s (heads x)) rs → (a : Around) → AroundFits (heads x) (Sched s) a → KeepsHere rs a (passes_within n x rs a)
  within_keeps zero rs f ways a fits = pass_keeps rs f ways a fits
  within_keeps (suc n) rs f ways a fits =
      let first = pass x rs a in
      let k = pass_keeps rs f ways a fits in
      let w = pass_fits x well s rs f a fits in
      let later = passes_within n x first.runners first.around in
      walk_chosen rs a first.ran later first
      (and_then s (heads x) rs first.runners later.runners a first.around later.around k (within_keeps n first.runners w.runners k.ways first.around w.around)) k

  around_chosen : (ran : Bool) (v w : Walk) → AroundFits (heads x) (Sched s) v.around → AroundFits (heads x) (Sched s) w.around → AroundFits (heads x) (Sched s) (if ran then v else w).around
  around_chosen true v w p q = p
  around_chosen false v w p q = q

  within_around : (n : ℕ) (rs : List Runner) → Each (RunnerFits x s) rs → (a : Around) → AroundFits (heads x) (Sched s) a → AroundFits (heads x) (Sched s) (passes_within n x rs a).around
  within_around zero rs f a fits = (pass_fits x well s rs f a fits).around
  within_around (suc n) rs f a fits =
      let first = pass x rs a in
      let w = pass_fits x well s rs f a fits in
      around_chosen first.ran (passes_within n x first.runners first.around) first (within_around n first.runners w.runners first.around w.around) w.around

  -- what stands around fits after all passes too
  passes_around : (rs : List Runner) → Each (RunnerFits x s) rs → (a : Around) → AroundFits (heads x) (Sched s) a → AroundFits (heads x) (Sched s) (passes x rs a).around
  unfolding passes
  passes_around rs f a fits = within_around (steps_left rs) rs f a fits

  passes_keep : (rs : List Runner) → Each (RunnerFits x s) rs → Each (RunnerGoes s (heads x)) rs → (a : Around) → AroundFits (heads x) (Sched s) a → KeepsHere rs a (passes x rs a)
  unfolding passes
  passes_keep rs f ways a fits = within_keeps (steps_left rs) rs f ways a fits

-- ---- the close

record Closes (h : Heads) (rs : List Runner) : Type 0 where
  count : (t : ThreadId) → linked_in t (map closed (filter stays rs)) + carried_in t (leavers rs) ≡ runs_in t rs
  made : (t : ThreadId) → made_in t (leavers rs) ≡ 0
  ended : (t : ThreadId) → ended_in t (leavers rs) ≡ 0
  well : Each (SentWell h) (leavers rs)

closed_id : (r : Runner) → (closed_thread r).id ≡ r.thread.id
closed_id r = by r.suspended
  where
    by : (b : Bool) → (if b then r.thread else record r.thread { wait = closed_wait r.thread.wait }).id ≡ r.thread.id
    by true = refl
    by false = refl

way_well : (h : Heads) (s : SchedId) (t : Thread) (there : To) → IsWay h (Sched s) there → IsSentWell h (order.Arrive t) there
way_well h s t (to.Sched q) w = w
way_well h s t (to.Others q) w = absurd w
way_well h s t to.All w = absurd w
way_well h s t to.Workers w = tt

closes_one : (h : Heads) (s : SchedId) (r : Runner) (rs : List Runner) (leaving : Option To) → Goes s h leaving → Closes h rs
    → ((t : ThreadId) → linked_in t (map closed (cond (not (is_some leaving)) (r ∷ filter stays rs) (filter stays rs))) + carried_in t (leaver r.thread leaving ++ leavers rs) ≡ one (same_thread t r.thread.id) + runs_in t rs)
    × ((t : ThreadId) → made_in t (leaver r.thread leaving ++ leavers rs) ≡ 0) × ((t : ThreadId) → ended_in t (leaver r.thread leaving ++ leavers rs) ≡ 0)
    × Each (SentWell h) (leaver r.thread leaving ++ leavers rs)
closes_one h s r rs None way c =
    (λ t. let e = c.count t in let f = ap (λ (v : ThreadId). one (same_thread t v)) (closed_id r) in omega (arith, e, f), c.made, c.ended, c.well)
closes_one h s r rs (Some there) way c =
    (λ t. let e = c.count t in omega (arith, e), λ t. let e = c.made t in omega (arith, e), λ t. let e = c.ended t in omega (arith, e), (way_well h s r.thread there way, c.well))

closes : (h : Heads) (s : SchedId) (rs : List Runner) → Each (RunnerGoes s h) rs → Closes h rs
closes h s [] ways = record { count = λ t. refl; made = λ t. refl; ended = λ t. refl; well = tt }
closes h s (r ∷ rs) ways =
    let one = closes_one h s r rs r.leaving ways.0 (closes h s rs ways.1) in
    record { count = one.0; made = one.1; ended = one.2; well = one.3 }

begin_runs : (t : ThreadId) (budget : ℕ) (ss : List Standing) → runs_in t (map (runner_of budget) ss) ≡ linked_in t ss
begin_runs t budget [] = refl
begin_runs t budget (q ∷ ss) = ap (λ (n : ℕ). one (same_thread t q.thread.id) + n) (begin_runs t budget ss)

begin_goes : (h : Heads) (s : SchedId) (budget : ℕ) (ss : List Standing) → Each (RunnerGoes s h) (map (runner_of budget) ss)
begin_goes h s budget [] = tt
begin_goes h s budget (q ∷ ss) = (tt, begin_goes h s budget ss)

-- ---- instants

kept_sum : (l b la ea r es rl cl en cn : ℕ) → la + ea ≡ l + 0 + b → r + es ≡ la + 0 → rl + cl ≡ r → en ≡ ea + (es + 0) → cn ≡ 0 + (0 + cl) → l + b ≡ rl + cn + en
kept_sum l b la ea r es rl cl en cn p q u v w = omega (arith, p, q, u, v, w)

pub instant_keeps : (x : Prog) → IsWellFormed x → (limits : Limits) (m : Mach) (batch : List Order) → MachFits x m → All (Fits x m.s) batch → KeepsThreads (heads x) m batch (instant x limits m batch)
unfolding instant
instant_keeps x well limits m batch f all =
    let g = each_of (Fits x m.s) batch all in
    let h = heads x in
    let a = apply x m batch in
    let applied = batch_applied x well m batch f g in
    let rs = map (runner_of limits.budget) a.linked in
    let begin = around_of m a in
    let w = passes x rs begin in
    let first = first_around x well m batch f g in
    let k = passes_keep x well m.s rs (begin_fit x m.s limits.budget a.linked applied.linked) (begin_goes h m.s limits.budget a.linked) begin first in
    let last = passes_around x well m.s rs (begin_fit x m.s limits.budget a.linked applied.linked) begin first in
    let c = closes h m.s w.runners k.ways in
    let ends = tells h a.sent (orders_end h m.s (unapplied h m) batch tt) in
    let here = sent_by (Sched m.s) w.around.acts in
    record {
      same = refl;
      kept = λ t.
          let p = orders_kept h m.s t (unapplied h m) batch in
          let q = k.count t in
          let r = begin_runs t limits.budget a.linked in
          let u = c.count t in
          let e1 = ended_in-append t a.sent (here ++ leavers w.runners) in let e2 = ended_in-append t here (leavers w.runners) in let e3 = c.ended t in
          let c1 = carried_in-append t a.sent (here ++ leavers w.runners) in let c2 = carried_in-append t here (leavers w.runners) in
          let c3 = ends.carried t in let c4 = k.grows.carried t in
          omega (arith, p, q, r, u, e1, e2, e3, c1, c2, c3, c4);
      more = k.grows.up;
      fresh = λ t.
          let e = made_in-append t a.sent (here ++ leavers w.runners) in let e2 = made_in-append t here (leavers w.runners) in
          let u = ends.made t in let v = c.made t in let q = k.grows.fresh t in
          omega (arith, e, e2, u, v, q);
      well = each_append (SentWell h) a.sent (here ++ leavers w.runners) ends.well (each_append (SentWell h) here (leavers w.runners) (acts_well h (Sched m.s) w.around.acts last.acts) c.well);
    }
