-- A thread that stands goes on at a point that keeps what a lock promises, and so does its whole run.
use Rattle.std.proofs.Common.{◌≡◌, ℕ, zero, suc, ◌+◌, ◌==◌, Bool, true, false, List, [], ◌∷◌, map, reverse, length, Option, Some, None, slice_get, refl, sym, ap, ◌∙◌, subst, arith}
use Rattle.std.specs.Prelude.{◌||◌, ℤ, if◌then◌else◌, unwrap_or}
use Rattle.loft_base.specs.declared.ids.ModuleId.{ModuleId}
use Rattle.loft_base.specs.declared.ids.Value.{Value}
use Rattle.loft_tree.specs.declared.kinds.Kind.TheVariants.{Int}
use Rattle.loft_tree.specs.declared.heads.Place.{Place}
use Rattle.loft_tree.specs.declared.heads.Place.TheVariants.{Sched}
use Rattle.loft_tree.specs.declared.heads.Signature.{Signature}
use Rattle.loft_tree.specs.declared.heads.Heads.{Heads}
use Rattle.loft_tree.specs.Fits.{IfThere}
use Rattle.loft_tree.specs.NamedFits.{slots_of}
use Rattle.loft_tree.specs.Resolved.{Pause, Cooperate, Await, Get, Join, Link, Unlink, Halt, Resolved}
use Rattle.loft_orders.specs.declared.thread.Frame.{Frame}
use Rattle.loft_orders.specs.declared.thread.Thread.{Thread as ThreadAt}
use Rattle.loft_orders.specs.declared.thread.Wait.{Wait}
use Rattle.loft_sense.specs.Around.{Around, Beside}
use Rattle.loft_sense.specs.Statements.{target_of, answered}
use Rattle.loft_sense.specs.Run.{Active, point_of, active_of, go_on, go, beside}
use Rattle.loft_sense.specs.Tree.{Work, body_then, first_some, after_body, body_at, after, pause_at, tree}
use Rattle.loft_sense.specs.Machine.{Tree}
use Rattle.loft_sense.specs.Passes.{run_of}
use Rattle.loft_sense.specs.Stands.{StopKind, Begins, Pauses, Calls, StopAt, begin_of, end_of, stop_in, tree_stop, ValuesAgree, WaitAgrees, OuterStand, FramesStand, Stands}
use Rattle.loft_soundness.specs.WellFormed.{IsPlacedTree}
use Rattle.loft_soundness.specs.WorkFits.{TargetHasKind}
use Rattle.loft_soundness.specs.Points.{WorkIsAt}
use Rattle.loft_soundness.proofs.LeadsToPoints.{begin_stop, KindFits, IsPauseOf, IsAfter, LeadsToPoints}
use Rattle.loft_soundness.proofs.ProgramLemmas.{leads_to_points, stop_pauses}
use Rattle.loft_locks.specs.Locks.{Lock, LockCall, Takes, Gives, Other, call_of, lock_body, unlock_body, after_call, inside_at, TargetKeeps, PauseKeeps, CallStays, IsExpanded}
use Rattle.loft_locks.specs.LocksHold.{one}
use Rattle.loft_locks.proofs.PairLemmas.{WorkRuns, BodyRuns, runs_before, KindRuns, AfterRuns, after_body_runs, module_runs}
use Rattle.loft_locks.proofs.KeepLemmas.{depth, IsBegun, ThreadBegun, Keeps, same, answered_keeps}
use Rattle.loft_locks.proofs.PointLemmas.{IsLevel, depth_reverse, loop_work, again_work, ask_work, IsWaiting, loops, tests, asks, takes_body, gives_body, takes_begin, plain, waits, bound_of, frames_in, OuterRuns, AroundRuns, fewer, kept, PointRuns, RunsTo}
use Rattle.loft_locks.proofs.EndLemmas.{numbered}
use Rattle.loft_locks.proofs.StepLemmas.{going_runs, no_step_runs}

-- a module whose values agree is declared
head_of : (o : Option Signature) (vs : List Value) → ValuesAgree o vs → (head : Signature) × (o ≡ Some head)
head_of None vs e = absurd e
head_of (Some head) vs e = (head, refl)

-- ---- the stops of the module that takes a lock

-- the wait at a stop sets no variable
abbrev SetsNothing : StopKind → Type 0
SetsNothing Begins = Unit {0}
SetsNothing (Pauses pause) = target_of (Some pause) ≡ None
SetsNothing (Calls m) = ⊥

module _ (l : Lock) where
  record LockStop (at : StopAt) (w : List Work) (q : Place) : Type 0 where
    after : at.after ≡ q
    kind : SetsNothing at.kind
    waiting : IsWaiting l w

  abbrev first_stop : Place → StopAt
  first_stop q = record { kind = Pauses (Await (l.free ∷ []) None); depth = 0; after = q }

  abbrev second_stop : Place → StopAt
  second_stop q = record { kind = Pauses (Cooperate None); depth = 0; after = q }

  -- by whether it is the first or the second stop
  abbrev stops_by : Bool → Bool → Place → Option StopAt
  stops_by a b q = first_some (first_some (if a then Some (first_stop q) else None) (first_some (first_some (first_some (if b then Some (second_stop q) else None) None) None) None)) (first_some None None)

  abbrev left_by : Bool → Bool → Option (List Work)
  left_by a b = first_some (first_some (if a then Some (ask_work l) else None) (first_some (first_some (first_some (if b then Some (again_work l) else None) None) None) None)) (first_some None None)

  stop_by : (a b : Bool) (q : Place) (at : StopAt) → stops_by a b q ≡ Some at → LockStop at (unwrap_or (left_by a b) []) q
  stop_by true b q at e = let same : first_stop q ≡ at = cc in subst (λ s. LockStop s (ask_work l) q) same (record { after = refl; kind = refl; waiting = asks refl })
  stop_by false true q at e = let same : second_stop q ≡ at = cc in subst (λ s. LockStop s (again_work l) q) same (record { after = refl; kind = refl; waiting = tests refl })
  stop_by false false q at e = absurd cc

  lock_stop : (h : Heads) (k : ℕ) (cs : List ℤ) (q : Place) (at : StopAt) → stop_in h (lock_body l) k 0 q ≡ Some at → LockStop at (unwrap_or (after_body (lock_body l) k cs []) []) q
  lock_stop h k cs q at e = stop_by (1 == k) (2 == k) q at e

-- ---- a module of the program

module _ (p : Resolved) (l : Lock) (is : IsExpanded p l) (well : IsPlacedTree p) where
  leads : LeadsToPoints (Tree p)
  leads = leads_to_points (Tree p) well

  -- the point after a stop of the module that takes the lock
  takes_stop : (f : Frame) (k : ℕ) (at : StopAt) → call_of l f.module ≡ Takes → tree_stop p f.module k ≡ Some at → LockStop l at (point_of (tree p) f k) (Sched l.at)
  takes_stop f zero at call e =
      let begins : record { kind = Begins; depth = 0; after = begin_of p.heads f.module } ≡ at = cc in
      let first : body_then (body_at p f.module) [] ≡ loop_work l = ap (λ x. body_then x []) (takes_body p l is f.module call) in
      subst (λ s. LockStop l s (point_of (tree p) f zero) (Sched l.at)) begins (record { after = takes_begin p l is f.module call; kind = tt; waiting = loops first })
  takes_stop f (suc k) at call e =
      let body = takes_body p l is f.module call in
      let found : stop_in p.heads (lock_body l) (suc k) 0 (begin_of p.heads f.module) ≡ Some at = ap (λ x. stop_in p.heads x (suc k) 0 (begin_of p.heads f.module)) (sym body) ∙ e in
      let there = lock_stop l p.heads (suc k) f.counts (begin_of p.heads f.module) at found in
      let stop : LockStop l at (point_of (tree p) f (suc k)) (begin_of p.heads f.module) = subst (λ x. LockStop l at (unwrap_or (after_body x (suc k) f.counts []) []) (begin_of p.heads f.module)) (sym body) there in
      subst (λ q. LockStop l at (point_of (tree p) f (suc k)) q) (takes_begin p l is f.module call) stop

  -- the module that gives it back has no stop but its begin
  gives_stop : (m : ModuleId) (k : ℕ) (at : StopAt) → call_of l m ≡ Gives → tree_stop p m (suc k) ≡ Some at → ⊥
  gives_stop m k at call e =
      let found : stop_in p.heads (unlock_body l) (suc k) 0 (begin_of p.heads m) ≡ Some at = ap (λ x. stop_in p.heads x (suc k) 0 (begin_of p.heads m)) (sym (gives_body p l is m call)) ∙ e in
      cc

  -- neither runs a module
  calls_other : (f : Frame) (k : ℕ) (at : StopAt) (m : ModuleId) (call : LockCall) → call_of l f.module ≡ call → tree_stop p f.module k ≡ Some at → at.kind ≡ Calls m → call ≡ Other
  calls_other f k at m Other e s kind = refl
  calls_other f k at m Takes e s kind = absurd (subst SetsNothing kind (takes_stop f k at e s).kind)
  calls_other f zero at m Gives e s kind =
      let begins : record { kind = Begins; depth = 0; after = begin_of p.heads f.module } ≡ at = cc in
      let none : SetsNothing at.kind = subst (λ (a : StopAt). SetsNothing a.kind) begins tt in
      absurd (subst SetsNothing kind none)
  calls_other f (suc k) at m Gives e s kind = absurd (gives_stop f.module k at e s)

  of_after : (m : ModuleId) (bound : Bool) (k : ℕ) (at : StopAt) (o : Option (List Work)) (s : Option StopAt) → s ≡ Some at → AfterRuns p l m bound k o s → KindRuns p l m bound k at.kind (unwrap_or o [])
  of_after m bound k at None None e f = absurd cc
  of_after m bound k at (Some w) (Some other) e f = let same : other ≡ at = cc in subst (λ (a : StopAt). KindRuns p l m bound k a.kind w) same f
  of_after m bound k at None (Some other) e f = absurd f
  of_after m bound k at (Some w) None e f = absurd f

  -- ---- what is left after a stop of another module

  module _ (m : ModuleId) (bound : Bool) (other : call_of l m ≡ Other) (stays : CallStays p bound m) where
    body_is : BodyRuns p l m bound false false (body_at p m)
    body_is = module_runs p l m bound stays (numbered p well m) (is.others m other)

    start_is : WorkRuns p l m bound false (body_then (body_at p m) [])
    start_is = runs_before p l m bound (body_at p m) [] false false body_is refl

    resume_is : (k : ℕ) (counts : List ℤ) (at : StopAt) → tree_stop p m (suc k) ≡ Some at → KindRuns p l m bound (suc k) at.kind (after p m (suc k) counts)
    resume_is k counts at e =
        of_after m bound (suc k) at (after_body (body_at p m) (suc k) counts []) (stop_in p.heads (body_at p m) (suc k) 0 (begin_of p.heads m)) e
        (after_body_runs p l m bound p.heads (body_at p m) (suc k) 0 counts [] (begin_of p.heads m) false false body_is refl)

  after_stop : (f : Frame) (head : Signature) (at : StopAt) (k : ℕ) → slice_get p.heads.modules f.module.0 ≡ Some head → tree_stop p f.module k ≡ Some at → length f.counts ≡ at.depth
      → IsAfter (Tree p) f.module head at (point_of (tree p) f k)
  after_stop f head at zero declared e few =
      let begins : Some (begin_stop p.heads f.module) ≡ Some at = sym (leads.begins f.module head declared) ∙ e in
      let same : begin_stop p.heads f.module ≡ at = cc in
      subst (λ a. IsAfter (Tree p) f.module head a ((tree p).start f.module)) same (leads.starts f.module head declared)
  after_stop f head at (suc k) declared e few = leads.resumes f.module head k f.counts at declared e few

  -- ---- outer frames

  -- what a frame that stands at a `run` of m leaves
  outer_at : (m : ModuleId) (f : Frame) (bound : Bool) (at : StopAt) (k : ℕ) → call_of l f.module ≡ Other → CallStays p bound f.module → tree_stop p f.module k ≡ Some at → at.kind ≡ Calls m
      → CallStays p (bound || inside_at p l f.module k) m × WorkRuns p l f.module bound (after_call (call_of l m) (inside_at p l f.module k)) (point_of (tree p) f k)
  outer_at m f bound at zero other stays e kind =
      let begins : record { kind = Begins; depth = 0; after = begin_of p.heads f.module } ≡ at = cc in
      let none : SetsNothing at.kind = subst (λ (a : StopAt). SetsNothing a.kind) begins tt in
      absurd (subst SetsNothing kind none)
  outer_at m f bound at (suc k) other stays e kind =
      subst (λ (s : StopKind). KindRuns p l f.module bound (suc k) s (after p f.module (suc k) f.counts)) kind (resume_is f.module bound other stays k f.counts at e)

  abbrev again : Frame → Active (List Work)
  again f = active_of (tree p) f

  outer_wakes : (m : ModuleId) (fs : List Frame) → OuterStand (Tree p) m fs → (fs ≡ [] → call_of l m ≡ Other) → CallStays p (bound_of p l (map again fs)) m × OuterRuns p l m (map again fs)
  outer_wakes m [] stand root = (tt, root refl)
  outer_wakes m (f ∷ fs) stand root =
      let at = stand.0.0 in
      let frame = stand.0.1 in
      let kind = stand.0.2 in
      let other : call_of l f.module ≡ Other = calls_other f f.stop at m (call_of l f.module) refl frame.stop kind in
      let below = outer_wakes f.module fs stand.1 (λ e. other) in
      let here = outer_at m f (bound_of p l (map again fs)) at f.stop other below.0 frame.stop kind in
      let head = head_of (slice_get p.heads.modules f.module.0) f.values frame.values in
      let left = after_stop f head.0 at f.stop head.1 frame.stop frame.counts in
      let ends : at.after ≡ end_of p.heads m = subst (λ k. KindFits p.heads (slots_of head.0) k at.after) kind left.kind in
      let there : WorkIsAt p f.module head.0 (point_of (tree p) f f.stop) (end_of p.heads m) = subst (λ q. WorkIsAt p f.module head.0 (point_of (tree p) f f.stop) q) ends left.there in
      (here.0, (other, record { head = head.0; declared = head.1; at = there }, here.1, below.1))

  -- ---- the innermost frame

  pause_keeps : (pause : Pause) → PauseKeeps l pause → IfThere (TargetKeeps l) (target_of (Some pause))
  pause_keeps (Cooperate instants) f = tt
  pause_keeps (Await events limit) f = tt
  pause_keeps (Get event index target) f = f
  pause_keeps (Join thread limit) f = tt
  pause_keeps (Link s) f = tt
  pause_keeps Unlink f = tt
  pause_keeps Halt f = tt

  -- its wait is answered
  answer : (place : Place) (slots : _) (kind : StopKind) (o : Option Pause) (w : Wait) (values : List Value) (b : Beside) → IsPauseOf kind o → WaitAgrees kind w → KindFits p.heads slots kind place
      → ((pause : Pause) → kind ≡ Pauses pause → IfThere (TargetKeeps l) (target_of (Some pause))) → Keeps p l place b (answered p.heads o w values b).beside
  answer place slots Begins o w values b found agrees fit keeps = subst (λ u. Keeps p l place b (answered p.heads o u values b).beside) (sym agrees) (same p l place b b refl refl)
  answer place slots (Pauses pause) o w values b found agrees fit keeps =
      subst (λ q. Keeps p l place b (answered p.heads q w values b).beside) (sym found) (answered_keeps p l is slots place values b (Some pause) w (keeps pause refl) fit)
  answer place slots (Calls m) o w values b found agrees fit keeps = absurd agrees

  -- the work of the innermost frame, which stands at a stop that is no `run`
  plain_wakes : (f : Frame) (bound : Bool) (at : StopAt) (w : Wait) (k : ℕ) → call_of l f.module ≡ Other → CallStays p bound f.module → tree_stop p f.module k ≡ Some at → WaitAgrees at.kind w
      → WorkRuns p l f.module bound (inside_at p l f.module k) (point_of (tree p) f k) × ((pause : Pause) → at.kind ≡ Pauses pause → IfThere (TargetKeeps l) (target_of (Some pause)))
  plain_wakes f bound at w zero other stays e agrees = (
    start_is f.module bound other stays,
    λ pause kind.
        let begins : record { kind = Begins; depth = 0; after = begin_of p.heads f.module } ≡ at = cc in
        let first : Begins ≡ Pauses pause = ap (λ (a : StopAt). a.kind) begins ∙ kind in
        absurd cc,
  )
  plain_wakes f bound at w (suc k) other stays e agrees = by at.kind refl agrees (resume_is f.module bound other stays k f.counts at e)
    where
      by : (kind : StopKind) → at.kind ≡ kind → WaitAgrees kind w → KindRuns p l f.module bound (suc k) kind (after p f.module (suc k) f.counts)
          → WorkRuns p l f.module bound (inside_at p l f.module (suc k)) (after p f.module (suc k) f.counts) × ((pause : Pause) → at.kind ≡ Pauses pause → IfThere (TargetKeeps l) (target_of (Some pause)))
      by Begins same agrees runs = absurd runs
      by (Pauses pause) same agrees runs = (runs.1, λ q kind. let is_ : pause ≡ q = cc in subst (λ u. IfThere (TargetKeeps l) (target_of (Some u))) is_ (pause_keeps pause runs.0))
      by (Calls m) same agrees runs = absurd agrees

  module _ (L : Option ℤ → ℕ → Type 0) (level : IsLevel L) (place : Place) (others : ℕ) where
    abbrev Points : Beside → List (Active (List Work)) → Type 0
    Points b rs = PointRuns p l L level place others b rs

    depth_again : (fs : List Frame) → frames_in p l (map again fs) ≡ depth p l fs
    depth_again [] = refl
    depth_again (f ∷ fs) = ap (λ n. one (inside_at p l f.module f.stop) + n) (depth_again fs)

    -- the frame with its wait answered
    abbrev answered_at : Wait → Beside → Frame → Beside
    answered_at w b f = (answered p.heads (pause_at p f.module f.stop) w f.values b).beside

    abbrev woken : Wait → Beside → Frame → Active (List Work)
    woken w b f = record (again f) { values = (answered p.heads (pause_at p f.module f.stop) w f.values b).values }

    root_of : (f : Frame) (fs : List Frame) → IsBegun l (f ∷ fs) → fs ≡ [] → call_of l f.module ≡ Other
    root_of f [] begun e = begun
    root_of f (g ∷ fs) begun e = absurd cc

    no_gives : (f : Frame) (fs : List Frame) → IsBegun l (f ∷ fs) → call_of l f.module ≡ Gives → ⊥
    no_gives f [] begun e = cc
    no_gives f (g ∷ fs) begun e = begun e

    inner_wakes : (w : Wait) (b : Beside) (f : Frame) (fs : List Frame) (call : LockCall) → call_of l f.module ≡ call → FramesStand (Tree p) w place (f ∷ fs) → IsBegun l (f ∷ fs)
        → AroundRuns p l L level place b.around (depth p l (f ∷ fs) + others) → Points (answered_at w b f) (woken w b f ∷ map again fs)
    inner_wakes w b f fs Gives e stand begun room = absurd (no_gives f fs begun e)
    inner_wakes w b f fs Takes e stand begun room =
        let at = stand.0.0 in
        let frame = stand.0.1 in
        let outer = outer_wakes f.module fs stand.1 (root_of f fs begun) in
        let stop = takes_stop f f.stop at e frame.stop in
        let there : place ≡ Sched l.at = sym stand.0.3 ∙ stop.after in
        let keeps = answer place [] at.kind (pause_at p f.module f.stop) w f.values b (stop_pauses (Tree p) f.module f.stop at frame.stop) stand.0.2 (fits at.kind stop.kind) (sets at.kind stop.kind) in
        let n = depth_again fs in (
          false,
          waits e there refl stop.waiting,
          outer.1,
          fewer p l L level place (answered_at w b f).around (0 + frames_in p l (map again fs) + others) (depth p l (f ∷ fs) + others) (omega (arith, n)) (kept p l L level place b (answered_at w b f) (depth p l (f ∷ fs) + others) keeps room),
        )
      where
        fits : (kind : StopKind) → SetsNothing kind → KindFits p.heads [] kind place
        fits Begins s = tt
        fits (Pauses pause) s = subst (λ o. IfThere (TargetHasKind p.heads [] place Int) o) (sym s) tt
        fits (Calls m) s = absurd s

        sets : (kind : StopKind) → SetsNothing kind → (pause : Pause) → kind ≡ Pauses pause → IfThere (TargetKeeps l) (target_of (Some pause))
        sets kind s pause same = subst (λ o. IfThere (TargetKeeps l) o) (sym (subst SetsNothing same s)) tt
    inner_wakes w b f fs Other e stand begun room =
        let at = stand.0.0 in
        let frame = stand.0.1 in
        let outer = outer_wakes f.module fs stand.1 (root_of f fs begun) in
        let own = inside_at p l f.module f.stop in
        let head = head_of (slice_get p.heads.modules f.module.0) f.values frame.values in
        let left = after_stop f head.0 at f.stop head.1 frame.stop frame.counts in
        let there : WorkIsAt p f.module head.0 (point_of (tree p) f f.stop) place = subst (λ q. WorkIsAt p f.module head.0 (point_of (tree p) f f.stop) q) stand.0.3 left.there in
        let runs = plain_wakes f (bound_of p l (map again fs)) at w f.stop e outer.0 frame.stop stand.0.2 in
        let keeps = answer place (slots_of head.0) at.kind (pause_at p f.module f.stop) w f.values b (stop_pauses (Tree p) f.module f.stop at frame.stop) stand.0.2 (subst (λ q. KindFits p.heads (slots_of head.0) at.kind q) stand.0.3 left.kind) runs.1 in
        let n = depth_again fs in (
          own,
          plain e (record { head = head.0; declared = head.1; at = there }) runs.0,
          outer.1,
          fewer p l L level place (answered_at w b f).around (one own + frames_in p l (map again fs) + others) (depth p l (f ∷ fs) + others) (omega (arith, n)) (kept p l L level place b (answered_at w b f) (depth p l (f ∷ fs) + others) keeps room),
        )

    frames_run : (w : Wait) (b : Beside) (fs : List Frame) (left : ℕ) → FramesStand (Tree p) w place fs → IsBegun l fs → AroundRuns p l L level place b.around (depth p l fs + others)
        → RunsTo p l L level place others (go_on (tree p) left w b (map again fs))
    frames_run w b [] left stand begun room = absurd stand
    frames_run w b (f ∷ fs) zero stand begun room =
        no_step_runs p l is well L level place others b (map again (f ∷ fs)) (fewer p l L level place b.around others (depth p l (f ∷ fs) + others) (omega arith) room)
    frames_run w b (f ∷ fs) (suc left) stand begun room =
        going_runs p l is well L level place others left (answered_at w b f) (woken w b f ∷ map again fs) (inner_wakes w b f fs (call_of l f.module) refl stand begun room)

    -- A run of a thread that stands keeps what the lock promises, beside so many frames of others that are inside.
    pub run_runs : (t : ThreadAt) (around : Around) (left : ℕ) → Stands (Tree p) t place → ThreadBegun l t → AroundRuns p l L level place around (depth p l t.frames + others)
        → RunsTo p l L level place others (run_of (Tree p) t around left)
    unfolding go
    run_runs t around left stands begun room =
        let n = depth_reverse p l t.frames in
        let same_ : depth p l t.frames + others ≡ depth p l (reverse t.frames) + others = omega (arith, n) in
        frames_run t.wait (beside t around) (reverse t.frames) left stands.frames begun (subst (λ m. AroundRuns p l L level place around m) same_ room)
