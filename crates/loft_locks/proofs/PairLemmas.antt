-- The work that is left of a module whose `run`s of a lock stand in pairs.
use Rattle.std.proofs.Common.{◌≡◌, ℕ, zero, suc, ◌+◌, ◌≤◌, ◌==◌, inl, inr, Bool, true, false, List, [], ◌∷◌, Option, Some, None, refl, sym, ap, subst, arith}
use Rattle.std.specs.Prelude.{◌⊎◌, ◌||◌, ℤ, pos, negsuc, if◌then◌else◌, drop}
use Rattle.std.proofs.lemmas.Bool.{eqb-true}
use Rattle.loft_base.specs.declared.ids.ModuleId.{ModuleId}
use Rattle.loft_tree.specs.declared.heads.Place.{Place}
use Rattle.loft_tree.specs.declared.heads.Heads.{Heads}
use Rattle.loft_tree.specs.Resolved.{Pause, Step, Do, Hold, Call, Choose, Loop, Times, Body, Empty, Then, Resolved}
use Rattle.loft_sense.specs.Run.{Next, Finish, Stuck, Acts, Advances, Tests, Counts, Holds, Runs}
use Rattle.loft_sense.specs.Tree.{Work, Begin, Again, Turns, body_then, next_begin, next_turn, next_work, first_some, at_stop, first_count, after_step, after_body, body_at}
use Rattle.loft_sense.specs.Stands.{StopKind, Begins, Pauses, Calls, StopAt, leads_step, stop_in_step, stop_in}
use Rattle.loft_soundness.specs.Numbered.{stops_in, body_stops, StepNumbered, BodyNumbered}
use Rattle.loft_soundness.proofs.NumberLemmas.{elsewhere, found_here, neither, in_first, in_second, none_some, IsOutside, outside_left, outside_right, outside_one, apart}
use Rattle.loft_locks.specs.Locks.{Lock, LockCall, Takes, Gives, Other, call_of, after_call, at_call, inside_after, inside_step, inside_body, or_false, inside_at, IsAway, StepLeaves, BodyLeaves, StepCalls, BodyCalls, Leaves, itself, through, ActionKeeps, PauseKeeps, PauseStays, CallStays, CallPairs, StepPairs, BodyPairs}

-- ---- nothing leaves

pub away_stays : (b : Bool) (pause : Pause) → (b ≡ true → IsAway pause → ⊥) → PauseStays b pause
away_stays false pause f = tt
away_stays true pause f = f refl

pub or_pause : (a b : Bool) (pause : Pause) → PauseStays a pause → PauseStays b pause → PauseStays (a || b) pause
or_pause false b pause f g = g
or_pause true b pause f g = f

pub or_call : (p : Resolved) (a b : Bool) (c : ModuleId) → CallStays p a c → CallStays p b c → CallStays p (a || b) c
or_call p false b c f g = g
or_call p true b c f g = f

pub call_stays : (p : Resolved) (b : Bool) (c : ModuleId) → (b ≡ true → Leaves p c → ⊥) → CallStays p b c
call_stays p false c f = tt
call_stays p true c f = f refl

pub stays_call : (p : Resolved) (b : Bool) (c : ModuleId) → CallStays p b c → b ≡ true → Leaves p c → ⊥
stays_call p false c f e = absurd cc
stays_call p true c f e = f

pub pause_stays : (b : Bool) (pause : Pause) → PauseStays b pause → IsAway pause → b ≡ false
pause_stays false pause f away = refl
pause_stays true pause f away = absurd (f away)

-- ---- a `run` in work that is left

-- no lock is taken inside a pair, and one is given back only there
abbrev pub CallRuns : Bool → LockCall → Type 0
CallRuns inside Takes = inside ≡ false
CallRuns inside Gives = inside ≡ true
CallRuns inside Other = Unit {0}

pairs_run : (outer inside : Bool) (call : LockCall) → CallPairs outer inside call → CallRuns inside call
pairs_run outer inside Takes f = f.1
pairs_run outer inside Gives f = f.1
pairs_run outer inside Other f = tt

pub after_same : (call : LockCall) (inside : Bool) → after_call call (at_call call inside) ≡ after_call call inside
after_same Takes inside = refl
after_same Gives inside = refl
after_same Other inside = refl

-- what a stop is that stands inside or doesn't
module _ (p : Resolved) (l : Lock) (m : ModuleId) (bound : Bool) where
  abbrev pub PauseRuns : Bool → ℕ → Pause → Type 0
  PauseRuns inside k pause = PauseKeeps l pause × PauseStays (bound || inside) pause × (inside_at p l m k ≡ inside)

  abbrev pub ModuleRuns : Bool → ℕ → ModuleId → Type 0
  ModuleRuns inside k c = CallRuns inside (call_of l c) × CallStays p (bound || at_call (call_of l c) inside) c × (inside_at p l m k ≡ at_call (call_of l c) inside)

  -- a statement and a body of this module, which begins inside a pair or doesn't, and ends so; bound: it was run inside one
  abbrev mutual
    pub StepRuns : Bool → Step → Type 0
    StepRuns inside (Do action) = ActionKeeps l action
    StepRuns inside (Hold k pause) = PauseRuns inside k pause
    StepRuns inside (Call k c arguments) = ModuleRuns inside k c
    StepRuns inside (Choose test x y) = BodyRuns inside inside x × BodyRuns inside inside y
    StepRuns inside (Loop test x) = BodyRuns inside inside x
    StepRuns inside (Times count x) = BodyRuns inside inside x

    pub BodyRuns : Bool → Bool → Body → Type 0
    BodyRuns inside ending Empty = inside ≡ ending
    BodyRuns inside ending (Then s b) = StepRuns inside s × BodyRuns (inside_after l inside s) ending b

  -- work that begins inside a pair or doesn't, and ends outside
  abbrev pub WorkRuns : Bool → List Work → Type 0
  WorkRuns inside [] = inside ≡ false
  WorkRuns inside (Begin s ∷ w) = StepRuns inside s × WorkRuns (inside_after l inside s) w
  WorkRuns inside (Again test x ∷ w) = BodyRuns inside inside x × WorkRuns inside w
  WorkRuns inside (Turns n x ∷ w) = BodyRuns inside inside x × WorkRuns inside w

  pub runs_before : (b : Body) (w : List Work) (inside ending : Bool) → BodyRuns inside ending b → WorkRuns ending w → WorkRuns inside (body_then b w)
  runs_before Empty w inside ending f g = subst (λ i. WorkRuns i w) (sym f) g
  runs_before (Then s b) w inside ending f g = (f.0, runs_before b w (inside_after l inside s) ending f.1 g)

  -- ---- what comes next

  abbrev pub NextRuns : Bool → Next (List Work) → Type 0
  NextRuns inside Finish = inside ≡ false
  NextRuns inside Stuck = ⊥
  NextRuns inside (Acts action w) = ActionKeeps l action × WorkRuns inside w
  NextRuns inside (Advances w) = WorkRuns inside w
  NextRuns inside (Tests test v w) = WorkRuns inside v × WorkRuns inside w
  NextRuns inside (Counts count f) = (n : ℤ) → WorkRuns inside (f n)
  NextRuns inside (Holds k pause w) = PauseRuns inside k pause × WorkRuns inside w
  NextRuns inside (Runs k c arguments w) = ModuleRuns inside k c × WorkRuns (after_call (call_of l c) inside) w

  begin_runs : (s : Step) (w : List Work) (inside : Bool) → StepRuns inside s → WorkRuns (inside_after l inside s) w → NextRuns inside (next_begin s w)
  begin_runs (Do action) w inside f g = (f, g)
  begin_runs (Hold k pause) w inside f g = (f, g)
  begin_runs (Call k c arguments) w inside f g = (f, g)
  begin_runs (Choose test x y) w inside f g = (runs_before x w inside inside f.0 g, runs_before y w inside inside f.1 g)
  begin_runs (Loop test x) w inside f g = (f, g)
  begin_runs (Times count x) w inside f g = λ n. (f, g)

  turn_runs : (n : ℤ) (x : Body) (w : List Work) (inside : Bool) → BodyRuns inside inside x → WorkRuns inside w → NextRuns inside (next_turn n x w)
  turn_runs (pos zero) x w inside f g = g
  turn_runs (pos (suc n)) x w inside f g = runs_before x (Turns (pos n) x ∷ w) inside inside f (f, g)
  turn_runs (negsuc n) x w inside f g = g

  pub next_runs : (w : List Work) (inside : Bool) → WorkRuns inside w → NextRuns inside (next_work w)
  next_runs [] inside f = f
  next_runs (Begin s ∷ w) inside f = begin_runs s w inside f.0 f.1
  next_runs (Again test x ∷ w) inside f = (runs_before x (Again test x ∷ w) inside inside f.0 f, f.1)
  next_runs (Turns n x ∷ w) inside f = turn_runs n x w inside f.0 f.1

  -- ---- what is left after a stop

  -- the stop that is found stands inside or doesn't, and so goes on what is left
  abbrev pub KindRuns : ℕ → StopKind → List Work → Type 0
  KindRuns k Begins w = ⊥
  KindRuns k (Pauses pause) w = PauseKeeps l pause × WorkRuns (inside_at p l m k) w
  KindRuns k (Calls c) w = CallStays p (bound || inside_at p l m k) c × WorkRuns (after_call (call_of l c) (inside_at p l m k)) w

  abbrev pub AfterRuns : ℕ → Option (List Work) → Option StopAt → Type 0
  AfterRuns k None None = Unit {0}
  AfterRuns k (Some w) (Some at) = KindRuns k at.kind w
  AfterRuns k None (Some at) = ⊥
  AfterRuns k (Some w) None = ⊥

  after_first : (k : ℕ) (a b : Option (List Work)) (c d : Option StopAt) → AfterRuns k a c → AfterRuns k b d → AfterRuns k (first_some a b) (first_some c d)
  after_first k None b None d f g = g
  after_first k (Some v) b (Some o) d f g = f
  after_first k None b (Some o) d f g = absurd f
  after_first k (Some v) b None d f g = absurd f

  after_at : (here k : ℕ) (w : List Work) (at : StopAt) → KindRuns here at.kind w → AfterRuns k (at_stop here k w) (at_stop here k at)
  after_at here k w at f = by (here == k) refl
    where
      by : (b : Bool) → (here == k) ≡ b → AfterRuns k (if b then Some w else None) (if b then Some at else None)
      by true e = subst (λ j. KindRuns j at.kind w) (eqb-true here k e) f
      by false e = tt

  pause_kind : (k : ℕ) (pause : Pause) (inside : Bool) (w : List Work) → PauseRuns inside k pause → WorkRuns inside w → KindRuns k (Pauses pause) w
  pause_kind k pause inside w f g = (f.0, subst (λ i. WorkRuns i w) (sym f.2) g)

  call_kind : (k : ℕ) (c : ModuleId) (inside : Bool) (w : List Work) → ModuleRuns inside k c → WorkRuns (after_call (call_of l c) inside) w → KindRuns k (Calls c) w
  call_kind k c inside w f g = (
    subst (λ i. CallStays p (bound || i) c) (sym f.2) f.1,
    subst (λ i. WorkRuns (after_call (call_of l c) i) w) (sym f.2) (subst (λ i. WorkRuns i w) (sym (after_same (call_of l c) inside)) g),
  )

  module _ (h : Heads) where
    mutual
      after_step_runs : (s : Step) (k d : ℕ) (cs : List ℤ) (w : List Work) (q : Place) (inside : Bool) → StepRuns inside s → WorkRuns (inside_after l inside s) w → AfterRuns k (after_step s k cs w) (stop_in_step h s k d q)
      after_step_runs (Do action) k d cs w q inside f g = tt
      after_step_runs (Hold here pause) k d cs w q inside f g = after_at here k w _ (pause_kind here pause inside w f g)
      after_step_runs (Call here c arguments) k d cs w q inside f g = after_at here k w _ (call_kind here c inside w f g)
      after_step_runs (Choose test x y) k d cs w q inside f g =
          after_first k (after_body x k cs w) (after_body y k cs w) (stop_in h x k d q) (stop_in h y k d q)
          (after_body_runs x k d cs w q inside inside f.0 g) (after_body_runs y k d cs w q inside inside f.1 g)
      after_step_runs (Loop test x) k d cs w q inside f g = after_body_runs x k d cs (Again test x ∷ w) q inside inside f (f, g)
      after_step_runs (Times count x) k d cs w q inside f g = after_body_runs x k (d + 1) (drop 1 cs) (Turns (first_count cs) x ∷ w) q inside inside f (f, g)

      pub after_body_runs : (b : Body) (k d : ℕ) (cs : List ℤ) (w : List Work) (q : Place) (inside ending : Bool) → BodyRuns inside ending b → WorkRuns ending w → AfterRuns k (after_body b k cs w) (stop_in h b k d q)
      after_body_runs Empty k d cs w q inside ending f g = tt
      after_body_runs (Then s b) k d cs w q inside ending f g =
          after_first k (after_step s k cs (body_then b w)) (after_body b k cs w) (stop_in_step h s k d q) (stop_in h b k d (leads_step h s q))
          (after_step_runs s k d cs (body_then b w) q inside f.0 (runs_before b w (inside_after l inside s) ending f.1 g))
          (after_body_runs b k d cs w (leads_step h s q) (inside_after l inside s) ending f.1 g)

-- ---- the body of a module

-- a stop outside the numbers of a statement or a body isn't in it
module _ (l : Lock) where
  mutual
    outside_step : (s : Step) (n k : ℕ) (inside : Bool) → StepNumbered s n → IsOutside k n (stops_in s) → inside_step l inside s k ≡ None
    outside_step (Do action) n k inside e o = refl
    outside_step (Hold here pause) n k inside e o = elsewhere here k _ (outside_one here k n e o)
    outside_step (Call here c arguments) n k inside e o = elsewhere here k _ (outside_one here k n e o)
    outside_step (Choose test x y) n k inside e o =
        neither (inside_body l inside x k) (inside_body l inside y k)
        (outside_body x n k inside e.0 (outside_left k n (body_stops x) (body_stops y) o)) (outside_body y (n + body_stops x) k inside e.1 (outside_right k n (body_stops x) (body_stops y) o))
    outside_step (Loop test x) n k inside e o = outside_body x n k inside e o
    outside_step (Times count x) n k inside e o = outside_body x n k inside e o

    outside_body : (b : Body) (n k : ℕ) (inside : Bool) → BodyNumbered b n → IsOutside k n (body_stops b) → inside_body l inside b k ≡ None
    outside_body Empty n k inside e o = refl
    outside_body (Then s b) n k inside e o =
        neither (inside_step l inside s k) (inside_body l (inside_after l inside s) b k)
        (outside_step s n k inside e.0 (outside_left k n (stops_in s) (body_stops b) o)) (outside_body b (n + stops_in s) k (inside_after l inside s) e.1 (outside_right k n (stops_in s) (body_stops b) o))

  not_in_step : (s : Step) (b : Body) (n k : ℕ) (i j found : Bool) → StepNumbered s n → BodyNumbered b (n + stops_in s) → inside_body l j b k ≡ Some found → inside_step l i s k ≡ None
  not_in_step s b n k i j found hs hb e = by (apart k n (stops_in s) (body_stops b))
    where
      by : IsOutside k n (stops_in s) ⊎ IsOutside k (n + stops_in s) (body_stops b) → inside_step l i s k ≡ None
      by (inl o) = outside_step s n k i hs o
      by (inr o) = absurd (none_some (inside_body l j b k) found (outside_body b (n + stops_in s) k j hb o) e)

  not_in_body : (a b : Body) (n k : ℕ) (i found : Bool) → BodyNumbered a n → BodyNumbered b (n + body_stops a) → inside_body l i b k ≡ Some found → inside_body l i a k ≡ None
  not_in_body a b n k i found ha hb e = by (apart k n (body_stops a) (body_stops b))
    where
      by : IsOutside k n (body_stops a) ⊎ IsOutside k (n + body_stops a) (body_stops b) → inside_body l i a k ≡ None
      by (inl o) = outside_body a n k i ha o
      by (inr o) = absurd (none_some (inside_body l i b k) found (outside_body b (n + body_stops a) k i hb o) e)

module _ (p : Resolved) (l : Lock) (m : ModuleId) (bound : Bool) (stays : CallStays p bound m) where
  -- what is found is the module's
  abbrev pub IsPartOf : (ℕ → Option Bool) → Type 0
  IsPartOf f = (k : ℕ) (i : Bool) → f k ≡ Some i → inside_at p l m k ≡ i

  pause_of_module : (pause : Pause) → (IsAway pause → Leaves p m) → PauseStays bound pause
  pause_of_module pause away = away_stays bound pause (λ e is. stays_call p bound m stays e (away is))

  call_of_module : (c : ModuleId) → (Leaves p c → Leaves p m) → CallStays p bound c
  call_of_module c on = call_stays p bound c (λ e is. stays_call p bound m stays e (on is))

  mutual
    step_runs : (s : Step) (n : ℕ) (outer inside : Bool) → StepNumbered s n → StepPairs p l outer inside s → IsPartOf (λ k. inside_step l inside s k)
        → (StepLeaves s → Leaves p m) → ((c : ModuleId) → StepCalls s c → Leaves p c → Leaves p m) → StepRuns p l m bound inside s
    step_runs (Do action) n outer inside e f a away on = f
    step_runs (Hold k pause) n outer inside e f a away on =
        (f.0, or_pause bound inside pause (pause_of_module pause away) f.1, a k inside (found_here k inside))
    step_runs (Call k c arguments) n outer inside e f a away on = (
      pairs_run outer inside (call_of l c) f.0,
      or_call p bound (at_call (call_of l c) inside) c (call_of_module c (on c refl)) f.1,
      a k (at_call (call_of l c) inside) (found_here k (at_call (call_of l c) inside)),
    )
    step_runs (Choose test x y) n outer inside e f a away on = (
      body_runs x n inside inside e.0 f.0 (λ k i g. a k i (in_first (inside_body l inside x k) (inside_body l inside y k) i g)) (λ g. away (inl g)) (λ c g. on c (inl g)),
      body_runs y (n + body_stops x) inside inside e.1 f.1
          (λ k i g. a k i (in_second (inside_body l inside x k) (inside_body l inside y k) i (not_in_body l x y n k inside i e.0 e.1 g) g)) (λ g. away (inr g)) (λ c g. on c (inr g)),
    )
    step_runs (Loop test x) n outer inside e f a away on = body_runs x n inside inside e f a away on
    step_runs (Times count x) n outer inside e f a away on = body_runs x n inside inside e f a away on

    body_runs : (b : Body) (n : ℕ) (outer inside : Bool) → BodyNumbered b n → BodyPairs p l outer inside b → IsPartOf (λ k. inside_body l inside b k)
        → (BodyLeaves b → Leaves p m) → ((c : ModuleId) → BodyCalls b c → Leaves p c → Leaves p m) → BodyRuns p l m bound inside outer b
    body_runs Empty n outer inside e f a away on = f
    body_runs (Then s b) n outer inside e f a away on = (
      step_runs s n outer inside e.0 f.0 (λ k i g. a k i (in_first (inside_step l inside s k) (inside_body l (inside_after l inside s) b k) i g)) (λ g. away (inl g)) (λ c g. on c (inl g)),
      body_runs b (n + stops_in s) outer (inside_after l inside s) e.1 f.1
          (λ k i g. a k i (in_second (inside_step l inside s k) (inside_body l (inside_after l inside s) b k) i (not_in_step l s b n k inside (inside_after l inside s) i e.0 e.1 g) g)) (λ g. away (inr g)) (λ c g. on c (inr g)),
    )

  is_part : BodyNumbered (body_at p m) 0 → IsPartOf (λ k. inside_body l false (body_at p m) k)
  is_part e zero i g =
      let first : 0 ≤ 0 = omega arith in
      absurd (none_some (inside_body l false (body_at p m) 0) i (outside_body l (body_at p m) 0 0 false e (inl first)) g)
  is_part e (suc k) i g = ap or_false g

  -- the body of a module whose `run`s stand in pairs
  pub module_runs : BodyNumbered (body_at p m) 0 → BodyPairs p l false false (body_at p m) → BodyRuns p l m bound false false (body_at p m)
  module_runs e f = body_runs (body_at p m) 0 false false e f (is_part e) (itself m) (through m)
