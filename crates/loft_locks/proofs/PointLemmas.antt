-- Points of a run as a lock sees them.
use Rattle.std.proofs.Common.{◌≡◌, ℕ, suc, ◌+◌, ◌≤◌, ◌==◌, inl, inr, Bool, true, false, List, [], ◌∷◌, ◌++◌, map, reverse, Option, Some, None, slice_get, refl, sym, ap, ◌∙◌, subst, arith}
use Rattle.std.specs.Prelude.{◌⊎◌, ◌||◌, ℤ, pos, if◌then◌else◌, unwrap_or}
use Rattle.std.proofs.lemmas.List.{reverse-append}
use Rattle.std.proofs.lemmas.Bool.{eqb-true}
use Rattle.loft_base.specs.declared.ids.ModuleId.{ModuleId}
use Rattle.loft_tree.specs.declared.heads.Place.{Place}
use Rattle.loft_tree.specs.declared.heads.Place.TheVariants.{Sched}
use Rattle.loft_tree.specs.declared.heads.Signature.{Signature}
use Rattle.loft_tree.specs.Fits.{Each}
use Rattle.loft_tree.specs.Resolved.{Shared, Number, ToShared, Assign, Generate, Cooperate, Await, Do, Hold, Choose, Loop, Body, Empty, Then, Resolved}
use Rattle.loft_orders.specs.declared.thread.Frame.{Frame}
use Rattle.loft_orders.specs.declared.order.End.{End}
use Rattle.loft_orders.specs.declared.note.Act.TheVariants as act
use Rattle.loft_sense.specs.Around.{Around, Beside}
use Rattle.loft_sense.specs.Run.{Active, Outcome, Held, Left, Ended, ends, frame_of}
use Rattle.loft_sense.specs.Tree.{Work, Begin, Again, body_at, tree}
use Rattle.loft_sense.specs.Stands.{begin_of, end_of, begin_or_unlinked, end_or_unlinked}
use Rattle.loft_soundness.specs.Points.{WorkIsAt}
use Rattle.loft_soundness.proofs.ListLemmas.{each_append}
use Rattle.loft_locks.specs.Locks.{Lock, Takes, Gives, Other, call_of, lock_body, unlock_body, after_call, inside_at, IsExpanded}
use Rattle.loft_locks.specs.LocksHold.{one}
use Rattle.loft_locks.proofs.PairLemmas.{WorkRuns}
use Rattle.loft_locks.proofs.KeepLemmas.{depth, ThreadBegun, ActRuns, held_at, Keeps}

-- ---- levels

-- What is kept of the value of a lock's variable and the number of frames that are inside: it goes up where the lock is taken,
-- down where it is given back, and frames may get lost.
pub record IsLevel (L : Option ℤ → ℕ → Type 0) : Type 0 where
  pub there : (o : Option ℤ) (n : ℕ) → L o n → (v : ℤ) × (o ≡ Some v)
  pub less : (o : Option ℤ) (m n : ℕ) → m ≤ n → L o n → L o m
  pub takes : (n : ℕ) → L (Some (pos 0)) n → L (Some (pos 1)) (suc n)
  pub gives : (o : Option ℤ) (n : ℕ) → L o (suc n) → L (Some (pos 0)) n

-- ---- lists of frames

pub depth_append : (p : Resolved) (l : Lock) (fs gs : List Frame) → depth p l (fs ++ gs) ≡ depth p l fs + depth p l gs
depth_append p l [] gs = omega arith
depth_append p l (f ∷ fs) gs = let e = depth_append p l fs gs in omega (arith, e)

pub depth_reverse : (p : Resolved) (l : Lock) (fs : List Frame) → depth p l (reverse fs) ≡ depth p l fs
depth_reverse p l [] = refl
depth_reverse p l (f ∷ fs) =
    let a : depth p l (reverse (f ∷ fs)) ≡ depth p l (reverse fs ++ f ∷ []) = ap (λ (gs : List Frame). depth p l gs) (reverse-append (f ∷ []) fs) in
    let b = depth_append p l (reverse fs) (f ∷ []) in
    let e = depth_reverse p l fs in
    omega (arith, a, b, e)

-- ---- the modules of a lock

module _ (l : Lock) where
  is_takes : (m : ModuleId) → call_of l m ≡ Takes → m.0 ≡ l.takes.0
  is_takes m e = by (m.0 == l.takes.0) refl e
    where
      of : (b : Bool) → (if b then Gives else Other) ≡ Takes → ⊥
      of true e = cc
      of false e = cc

      by : (a : Bool) → (m.0 == l.takes.0) ≡ a → (if a then Takes else (if m.0 == l.gives.0 then Gives else Other)) ≡ Takes → m.0 ≡ l.takes.0
      by true t e = eqb-true m.0 l.takes.0 t
      by false t e = absurd (of (m.0 == l.gives.0) e)

  is_gives : (m : ModuleId) → call_of l m ≡ Gives → m.0 ≡ l.gives.0
  is_gives m e = by (m.0 == l.takes.0) e
    where
      of : (b : Bool) → (m.0 == l.gives.0) ≡ b → (if b then Gives else Other) ≡ Gives → m.0 ≡ l.gives.0
      of true t e = eqb-true m.0 l.gives.0 t
      of false t e = absurd cc

      by : (a : Bool) → (if a then Takes else (if m.0 == l.gives.0 then Gives else Other)) ≡ Gives → m.0 ≡ l.gives.0
      by true e = absurd cc
      by false e = of (m.0 == l.gives.0) refl e

  -- the body of the loop
  abbrev pub wait_body : Body
  wait_body = Then (Hold 1 (Await (l.free ∷ []) None)) (Then (Choose (Shared l.held) (Then (Hold 2 (Cooperate None)) Empty) Empty) Empty)

  -- the work that is left of the module that takes the lock, at its points
  abbrev pub set_work : List Work
  set_work = Begin (Do (Assign (ToShared l.held) (Number (pos 1)))) ∷ []

  abbrev pub loop_work : List Work
  loop_work = Begin (Loop (Shared l.held) wait_body) ∷ set_work

  abbrev pub again_work : List Work
  again_work = Again (Shared l.held) wait_body ∷ set_work

  abbrev pub ask_work : List Work
  ask_work = Begin (Choose (Shared l.held) (Then (Hold 2 (Cooperate None)) Empty) Empty) ∷ again_work

  abbrev pub await_work : List Work
  await_work = Begin (Hold 1 (Await (l.free ∷ []) None)) ∷ ask_work

  abbrev pub coop_work : List Work
  coop_work = Begin (Hold 2 (Cooperate None)) ∷ again_work

  pub data IsWaiting (w : List Work) : Type 0 where
    loops : w ≡ loop_work → IsWaiting w
    tests : w ≡ again_work → IsWaiting w
    awaits : w ≡ await_work → IsWaiting w
    asks : w ≡ ask_work → IsWaiting w
    cooperates : w ≡ coop_work → IsWaiting w

  -- the same of the module that gives it back
  abbrev pub tell_work : List Work
  tell_work = Begin (Do (Generate l.free None)) ∷ []

  abbrev pub give_work : List Work
  give_work = Begin (Do (Assign (ToShared l.held) (Number (pos 0)))) ∷ tell_work

module _ (p : Resolved) (l : Lock) (is : IsExpanded p l) where
  pub takes_body : (m : ModuleId) → call_of l m ≡ Takes → body_at p m ≡ lock_body l
  takes_body m e = ap (λ k. unwrap_or (slice_get p.bodies k) Empty) (is_takes l m e) ∙ ap (λ (o : Option Body). unwrap_or o Empty) is.takes

  pub gives_body : (m : ModuleId) → call_of l m ≡ Gives → body_at p m ≡ unlock_body l
  gives_body m e = ap (λ k. unwrap_or (slice_get p.bodies k) Empty) (is_gives l m e) ∙ ap (λ (o : Option Body). unwrap_or o Empty) is.gives

  pub takes_begin : (m : ModuleId) → call_of l m ≡ Takes → begin_of p.heads m ≡ Sched l.at
  takes_begin m e = ap (λ k. begin_or_unlinked (slice_get p.heads.modules k)) (is_takes l m e) ∙ is.takes_there.0

  pub takes_end : (m : ModuleId) → call_of l m ≡ Takes → end_of p.heads m ≡ Sched l.at
  takes_end m e = ap (λ k. end_or_unlinked (slice_get p.heads.modules k)) (is_takes l m e) ∙ is.takes_there.1

  pub gives_begin : (m : ModuleId) → call_of l m ≡ Gives → begin_of p.heads m ≡ Sched l.at
  gives_begin m e = ap (λ k. begin_or_unlinked (slice_get p.heads.modules k)) (is_gives l m e) ∙ is.gives_there.0

  pub gives_end : (m : ModuleId) → call_of l m ≡ Gives → end_of p.heads m ≡ Sched l.at
  gives_end m e = ap (λ k. end_or_unlinked (slice_get p.heads.modules k)) (is_gives l m e) ∙ is.gives_there.1

-- ---- frames

module _ (p : Resolved) (l : Lock) where
  -- work that is left of a module that is declared, where the thread is linked here
  pub record PlainAt (place : Place) (m : ModuleId) (w : List Work) : Type 0 where
    pub head : Signature
    pub declared : slice_get p.heads.modules m.0 ≡ Some head
    pub at : WorkIsAt p m head w place

  -- The innermost frame goes on at this work. own: the thread has the lock by it, as nobody has by frames that are only begun;
  -- bound: an outer frame is inside. Where the variable was seen to be 0 it still is.
  pub data Inner (place : Place) (bound own : Bool) (held : Option ℤ) (m : ModuleId) (w : List Work) : Type 0 where
    plain : call_of l m ≡ Other → PlainAt place m w → WorkRuns p l m bound own w → Inner place bound own held m w
    waits : call_of l m ≡ Takes → place ≡ Sched l.at → own ≡ false → IsWaiting l w → Inner place bound own held m w
    free : call_of l m ≡ Takes → place ≡ Sched l.at → own ≡ false → held ≡ Some (pos 0) → w ≡ set_work l → Inner place bound own held m w
    taken : call_of l m ≡ Takes → place ≡ Sched l.at → own ≡ true → w ≡ [] → Inner place bound own held m w
    gives : call_of l m ≡ Gives → place ≡ Sched l.at → own ≡ true → w ≡ give_work l → Inner place bound own held m w
    tells : call_of l m ≡ Gives → place ≡ Sched l.at → own ≡ false → w ≡ tell_work l → Inner place bound own held m w
    given : call_of l m ≡ Gives → place ≡ Sched l.at → own ≡ false → w ≡ [] → Inner place bound own held m w

  -- a frame of these is inside by its stop
  abbrev pub bound_of : List (Active (List Work)) → Bool
  bound_of [] = false
  bound_of (q ∷ qs) = bound_of qs || inside_at p l q.module q.stop

  -- how many of them are
  abbrev pub frames_in : List (Active (List Work)) → ℕ
  frames_in [] = 0
  frames_in (q ∷ qs) = one (inside_at p l q.module q.stop) + frames_in qs

  -- the frames below one of module m, innermost first: the outermost of all is of no module of the lock, and each below another
  -- goes on where that one's module ends, inside where it was run inside or takes the lock
  abbrev pub OuterRuns : ModuleId → List (Active (List Work)) → Type 0
  OuterRuns m [] = call_of l m ≡ Other
  OuterRuns m (q ∷ qs) =
      (call_of l q.module ≡ Other) × PlainAt (end_of p.heads m) q.module q.at
      × WorkRuns p l q.module (bound_of qs) (after_call (call_of l m) (inside_at p l q.module q.stop)) q.at × OuterRuns q.module qs

  pub none_bound : (qs : List (Active (List Work))) → bound_of qs ≡ false → frames_in qs ≡ 0
  none_bound [] e = refl
  none_bound (q ∷ qs) e = by (bound_of qs) (inside_at p l q.module q.stop) e (none_bound qs)
    where
      by : (a b : Bool) → (a || b) ≡ false → (a ≡ false → frames_in qs ≡ 0) → one b + frames_in qs ≡ 0
      by true b e f = absurd cc
      by false true e f = absurd cc
      by false false e f = let q = f refl in omega (arith, q)

  pub depth_frames : (qs : List (Active (List Work))) → depth p l (map (frame_of (tree p)) qs) ≡ frames_in qs
  depth_frames [] = refl
  depth_frames (q ∷ qs) = ap (λ n. one (inside_at p l q.module q.stop) + n) (depth_frames qs)

  module _ (L : Option ℤ → ℕ → Type 0) (level : IsLevel L) where
    -- where the lock is so many frames may be inside, and elsewhere none
    abbrev pub Allows : Place → Option ℤ → ℕ → Type 0
    Allows place held n = ((place ≡ Sched l.at) × L held n) ⊎ ((place ≡ Sched l.at → ⊥) × (n ≡ 0))

    pub record AroundRuns (place : Place) (around : Around) (n : ℕ) : Type 0 where
      pub allows : Allows place (held_at p l around) n
      pub acts : Each (ActRuns p l) around.acts

    pub allows_less : (place : Place) (held : Option ℤ) (m n : ℕ) → m ≤ n → Allows place held n → Allows place held m
    allows_less place held m n le (inl f) = inl (f.0, level.less held m n le f.1)
    allows_less place held m n le (inr f) = let e = f.1 in inr (f.0, omega (arith, le, e))

    pub fewer : (place : Place) (around : Around) (m n : ℕ) → m ≤ n → AroundRuns place around n → AroundRuns place around m
    fewer place around m n le f = record { allows = allows_less place (held_at p l around) m n le f.allows; acts = f.acts }

    allows_kept : (place : Place) (held later : Option ℤ) (n : ℕ) → (place ≡ Sched l.at → later ≡ held) → Allows place held n → Allows place later n
    allows_kept place held later n same (inl f) = inl (f.0, subst (λ o. L o n) (sym (same f.0)) f.1)
    allows_kept place held later n same (inr f) = inr f

    pub kept : (place : Place) (b d : Beside) (n : ℕ) → Keeps p l place b d → AroundRuns place b.around n → AroundRuns place d.around n
    kept place b d n keeps f = record { allows = allows_kept place (held_at p l b.around) (held_at p l d.around) n keeps.held f.allows; acts = keeps.acts f.acts }

    pub at_home : (place : Place) (held : Option ℤ) (n : ℕ) → place ≡ Sched l.at → Allows place held n → L held n
    at_home place held n there (inl f) = f.1
    at_home place held n there (inr f) = absurd (f.0 there)

    module _ (place : Place) (others : ℕ) where
      -- a point of a run of a thread, beside which so many frames of other threads are inside
      abbrev pub PointRuns : Beside → List (Active (List Work)) → Type 0
      PointRuns b [] = AroundRuns place b.around others
      PointRuns b (r ∷ rs) =
          (own : Bool) × Inner place (bound_of rs) own (held_at p l b.around) r.module r.at × OuterRuns r.module rs × AroundRuns place b.around (one own + frames_in rs + others)

      -- how the run leaves the thread
      abbrev pub RunsTo : Outcome → Type 0
      RunsTo (Held t around left) = ThreadBegun l t × AroundRuns place around (depth p l t.frames + others)
      RunsTo (Left t to around left) = ThreadBegun l t × (depth p l t.frames ≡ 0) × AroundRuns place around others
      RunsTo (Ended end around left) = AroundRuns place around others

      pub others_only : (b : Beside) (rs : List (Active (List Work))) → PointRuns b rs → AroundRuns place b.around others
      others_only b [] f = f
      others_only b (r ∷ rs) f = fewer place b.around others (one f.0 + frames_in rs + others) (omega arith) f.3

      pub ends_runs : (end : End) (b : Beside) (left : ℕ) → AroundRuns place b.around others → RunsTo (ends end b left)
      ends_runs end b left f = record { allows = f.allows; acts = each_append (ActRuns p l) b.around.acts (act.End b.id end ∷ []) f.acts (tt, tt) }
