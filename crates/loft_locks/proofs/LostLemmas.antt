-- A lock that is lost at a moment of an instant stays lost in it and after it.
use Rattle.std.proofs.Common.{◌≡◌, ◌+◌, inl, Bool, true, false, List, [], ◌∷◌, ◌++◌, map, refl, ap, ◌∙◌, subst, arith}
use Rattle.std.specs.Prelude.{◌||◌, All}
use Rattle.std.specs.List.{AllByRecursion}
use Rattle.loft_base.specs.declared.ids.SchedId.{SchedId}
use Rattle.loft_tree.specs.declared.heads.Place.TheVariants.{Sched}
use Rattle.loft_tree.specs.Fits.{Each}
use Rattle.loft_tree.specs.Resolved.{Resolved}
use Rattle.loft_base.specs.declared.options.Limits.{Limits}
use Rattle.loft_orders.specs.declared.note.Standing.{Standing}
use Rattle.loft_orders.specs.declared.order.Order.{Order}
use Rattle.loft_sense.specs.Machine.{Prog, Tree, Mach}
use Rattle.loft_sense.specs.Around.{Around}
use Rattle.loft_sense.specs.Passes.{Runner, passes}
use Rattle.loft_sense.specs.Moments.{Moment, moment, moments, end_of, last_or, RunByRun}
use Rattle.loft_sense.specs.Apply.{apply}
use Rattle.loft_sense.specs.Instant.{runner_of, around_of, instant}
use Rattle.loft_sense.specs.Fits.{Fits}
use Rattle.loft_sense.proofs.MomentLemmas.{moments_run_by_run, moments_end, runs_keep, last_keeps}
use Rattle.loft_soundness.specs.Machines.{MachFits}
use Rattle.loft_soundness.specs.WellFormed.{IsPlacedTree}
use Rattle.loft_soundness.proofs.ListLemmas.{each_map, all_of}
use Rattle.loft_soundness.proofs.CarryLemmas.{each_parted}
use Rattle.loft_locks.specs.Locks.{Lock, has_inside, inside_at, IsExpanded}
use Rattle.loft_locks.specs.LocksHold.{one, insiders, OneHolds, IsLost, moments_in, threads_at, MomentLost, MachLost, StaysLost}
use Rattle.loft_locks.proofs.KeepLemmas.{depth, OrderRuns, held_at}
use Rattle.loft_locks.proofs.PointLemmas.{at_home}
use Rattle.loft_locks.proofs.Levels.{one_level, lost_level}
use Rattle.loft_locks.proofs.PassLemmas.{runners_in, linked_in, runners_few, linked_few, MomentRuns, moments_run, first_runs, closed_runs, MachRuns}

-- ---- nobody inside

module _ (p : Resolved) (l : Lock) where
  none_inside : (fs : _) → one (has_inside p l fs) ≡ 0 → depth p l fs ≡ 0
  none_inside [] e = refl
  none_inside (f ∷ fs) e = by (inside_at p l f.module f.stop) e (none_inside fs)
    where
      by : (b : Bool) → one (b || has_inside p l fs) ≡ 0 → (one (has_inside p l fs) ≡ 0 → depth p l fs ≡ 0) → one b + depth p l fs ≡ 0
      by true e g = absurd (omega (arith, e))
      by false e g = let q = g e in omega (arith, q)

  pub none_linked : (qs : List Standing) → insiders p l (map (λ (q : Standing). q.thread) qs) ≡ 0 → linked_in p l qs ≡ 0
  none_linked [] e = refl
  none_linked (q ∷ qs) e =
      let a = none_inside q.thread.frames (omega (arith, e)) in
      let b = none_linked qs (omega (arith, e)) in
      omega (arith, a, b)

  none_running : (rs : List Runner) → insiders p l (map (λ (r : Runner). r.thread) rs) ≡ 0 → runners_in p l rs ≡ 0
  none_running [] e = refl
  none_running (r ∷ rs) e =
      let a = none_inside r.thread.frames (omega (arith, e)) in
      let b = none_running rs (omega (arith, e)) in
      omega (arith, a, b)

-- ---- from a moment on

-- by recursion and by element
each_recursive : {A : Type 0} (P : A → Type 0) (xs : List A) → AllByRecursion P xs → Each P xs
each_recursive P [] f = tt
each_recursive P (x ∷ xs) f = (f.0, each_recursive P xs f.1)

-- what comes after a moment, run by run
record From (x : Prog) (t last : Moment) (rest : List Moment) : Type 0 where
  pub runs : RunByRun x t rest
  pub ends : last_or t rest ≡ last

from_moment : (x : Prog) (m : Moment) (ms earlier : List Moment) (t : Moment) (rest : List Moment) → RunByRun x m ms → m ∷ ms ≡ earlier ++ t ∷ rest → From x t (last_or m ms) rest
from_moment x m ms [] t rest runs e =
    let same : m ≡ t = cc in
    let others : ms ≡ rest = cc in
    subst (λ (n : Moment). From x n (last_or m ms) rest) same (subst (λ (ns : List Moment). From x m (last_or m ms) ns) others (record { runs = runs; ends = refl }))
from_moment x m [] (f ∷ []) t rest runs e = absurd cc
from_moment x m [] (f ∷ g ∷ earlier) t rest runs e = absurd cc
from_moment x m (n ∷ ns) (f ∷ earlier) t rest runs e = let others : n ∷ ns ≡ earlier ++ t ∷ rest = cc in from_moment x n ns earlier t rest runs.1 others

-- ---- an instant

module _ (p : Resolved) (l : Lock) (is : IsExpanded p l) (well : IsPlacedTree p) where
  abbrev x : Prog
  x = Tree p

  abbrev One : SchedId → Moment → Type 0
  One s t = MomentRuns p l is well OneHolds one_level s t

  abbrev Lost : SchedId → Moment → Type 0
  Lost s t = MomentRuns p l is well IsLost lost_level s t

  is_lost : (s : SchedId) → s ≡ l.at → (t : Moment) → Lost s t → MomentLost p l t
  is_lost s home t f =
      lost_level.less (held_at p l t.around) (insiders p l (threads_at t)) (runners_in p l t.runners) (runners_few p l t.runners)
      (at_home p l IsLost lost_level (Sched s) (held_at p l t.around) (runners_in p l t.runners) (ap (λ (q : SchedId). Sched q) home) f.room.allows)

  lost_now : (s : SchedId) → s ≡ l.at → (t : Moment) → One s t → MomentLost p l t → Lost s t
  lost_now s home t f lost =
      record { fits = f.fits; around = f.around; runners = f.runners; room = record { allows = inl (ap (λ (q : SchedId). Sched q) home, (lost.0, none_running p l t.runners lost.1)); acts = f.room.acts } }

  pub machine_lost : (m : Mach) → m.s ≡ l.at → MachRuns p l is well IsLost lost_level m → MachLost p l m
  machine_lost m home f =
      lost_level.less _ (insiders p l (map (λ (q : Standing). q.thread) m.linked)) (linked_in p l m.linked) (linked_few p l m.linked)
      (at_home p l IsLost lost_level (Sched m.s) _ (linked_in p l m.linked) (ap (λ (q : SchedId). Sched q) home) f.allows)

  pub lost_machine : (m : Mach) → m.s ≡ l.at → MachRuns p l is well OneHolds one_level m → MachLost p l m → MachRuns p l is well IsLost lost_level m
  lost_machine m home f lost = record { linked = f.linked; allows = inl (ap (λ (q : SchedId). Sched q) home, (lost.0, none_linked p l m.linked lost.1)) }

  -- at each moment of an instant
  pub each_one : (limits : Limits) (m : Mach) (batch : List Order) → MachFits x m → Each (Fits x m.s) batch → Each (OrderRuns p l) batch → MachRuns p l is well OneHolds one_level m → Each (One m.s) (moments_in p limits m batch)
  each_one limits m batch f fits runs g =
      let rs = map (runner_of limits.budget) (apply x m batch).linked in
      let around = around_of m (apply x m batch) in
      let first = first_runs p l is well OneHolds one_level limits m batch f g fits runs in
      (first, each_recursive (One m.s) (moments x rs around) (runs_keep x (One m.s) (moments_run p l is well OneHolds one_level m.s) (moment rs around) (moments x rs around) (moments_run_by_run x rs around) first))

  module _ (limits : Limits) (m : Mach) (batch : List Order) (home : m.s ≡ l.at) (f : MachFits x m) (fits : Each (Fits x m.s) batch) (runs : Each (OrderRuns p l) batch) where
    abbrev rs : List Runner
    rs = map (runner_of limits.budget) (apply x m batch).linked

    abbrev around : Around
    around = around_of m (apply x m batch)

    -- the lock is lost at each of these moments, and after the instant where it is at the last
    record AllLost (t : Moment) (rest : List Moment) : Type 0 where
      pub each : Each (MomentLost p l) rest
      pub last : Lost m.s (last_or t rest)

    lost_on : (t : Moment) (rest : List Moment) → RunByRun x t rest → Lost m.s t → AllLost t rest
    lost_on t rest go lost = record {
      each = each_map (Lost m.s) (MomentLost p l) rest (is_lost m.s home) (each_recursive (Lost m.s) rest (runs_keep x (Lost m.s) (moments_run p l is well IsLost lost_level m.s) t rest go lost));
      last = last_keeps x (Lost m.s) (moments_run p l is well IsLost lost_level m.s) t rest go lost;
    }

    closed_lost : (after : (instant x limits m batch).machine.s ≡ l.at) → Lost m.s (end_of (passes x rs around)) → MachLost p l (instant x limits m batch).machine
    closed_lost after last = machine_lost (instant x limits m batch).machine after (closed_runs p l is well IsLost lost_level limits m batch last)

    module _ (g : MachRuns p l is well OneHolds one_level m) (after : (instant x limits m batch).machine.s ≡ l.at) where
      lost_before : MachLost p l m → All (MomentLost p l) (moments_in p limits m batch)
      lost_before lost =
          let first = first_runs p l is well IsLost lost_level limits m batch f (lost_machine m home g lost) fits runs in
          all_of (MomentLost p l) (moments_in p limits m batch) (is_lost m.s home (moment rs around) first, (lost_on (moment rs around) (moments x rs around) (moments_run_by_run x rs around) first).each)

      lost_later : (earlier : List Moment) (t : Moment) (rest : List Moment) → moments_in p limits m batch ≡ earlier ++ t ∷ rest → MomentLost p l t
          → All (MomentLost p l) rest × MachLost p l (instant x limits m batch).machine
      lost_later earlier t rest e lost =
          let from = from_moment x (moment rs around) (moments x rs around) earlier t rest (moments_run_by_run x rs around) e in
          let here : One m.s t = (each_parted (One m.s) earlier t rest (subst (Each (One m.s)) e (each_one limits m batch f fits runs g))).1.0 in
          let on = lost_on t rest from.runs (lost_now m.s home t here lost) in
          (all_of (MomentLost p l) rest on.each, closed_lost after (subst (Lost m.s) (from.ends ∙ moments_end x rs around) on.last))

      pub stays_lost : StaysLost p l limits m batch (instant x limits m batch).machine
      stays_lost = record { before = lost_before; later = lost_later }
