-- The steps of the work that is left: each step leaves at least one fewer.
use Rattle.std.proofs.Common.{◌≡◌, inl, inr, ℕ, zero, suc, ◌+◌, ◌*◌, ◌<◌, ◌==◌, Bool, true, false, List, [], ◌∷◌, Option, Some, None, refl, sym, subst, arith}
use Rattle.std.specs.Prelude.{ℤ, pos, negsuc, if◌then◌else◌, drop}
use Rattle.loft_base.specs.declared.ids.ModuleId.{ModuleId}
use Rattle.loft_tree.specs.Resolved.{Exp, Number, Slot, Shared, Special, Unary, Binary, Pause, Cooperate, Await, Get, Join, Link, Unlink, Halt, Step, Do, Hold, Call, Choose, Loop, Times, Body, Empty, Then}
use Rattle.loft_sense.specs.Run.{Next, Finish, Stuck, Acts, Advances, Tests, Counts, Holds, Runs}
use Rattle.loft_sense.specs.Tree.{Work, Begin, Again, Turns, body_then, next_begin, next_turn, next_work, first_some, at_stop, first_count, after_step, after_body}
use Rattle.loft_budget.specs.declared.steps.Steps.{Steps}
use Rattle.loft_budget.specs.Steps.{only_through, followed, either, one_more, turning, turns_of, literal, times_steps, pause_steps, steps_or_none, step_steps, body_steps}
use Rattle.loft_budget.proofs.Order.{Less, less_refl, less_trans, followed_less, one_more_less, followed_twice, nothing_first, one_first, push, either_first, either_second, last_test, begin_turns, sure_turn, turn, HasWay, way_followed, way_either, way_one_more}

-- the turns that are left, with their tests
abbrev pub turns_steps : ℤ → Option ℕ → Steps → Steps
turns_steps c None x = turning 1 x
turns_steps c (Some t) x = turning (turns_of c * (t + 1) + 1) x

-- a `repeat` whose turns have a way through has a bare number
abbrev pub CountFine : Option ℕ → Option ℕ → Type 0
CountFine None count = Unit {0}
CountFine (Some t) None = ⊥
CountFine (Some t) (Some n) = Unit {0}

-- a count with which a `repeat` may begin
abbrev pub IsCount : Exp → ℤ → Type 0
IsCount (Number value) n = n ≡ value
IsCount (Slot slot) n = Unit {0}
IsCount (Shared shared) n = Unit {0}
IsCount (Special builtin) n = Unit {0}
IsCount (Unary operator operand) n = Unit {0}
IsCount (Binary operator left right) n = Unit {0}

-- a step off what is done first
step_off : (x w : Steps) → Less (one_more (only_through 0)) x → Less (one_more w) (followed x w)
step_off x w f = less_trans _ _ _ (one_more_less w _ (nothing_first w)) (push (only_through 0) x w f)

times_less : (t : Option ℕ) (count : Exp) (n : ℤ) (x : Steps) → CountFine t (literal count) → IsCount count n → Less (one_more (turns_steps n t x)) (times_steps (literal count) t x)
times_less None count n x f g = less_refl _
times_less (Some t) (Number value) n x f g = subst (λ (c : ℤ). Less (one_more (turns_steps c (Some t) x)) (times_steps (literal (Number value)) (Some t) x)) (sym g) (begin_turns _ _ x (omega arith))
times_less (Some t) (Slot slot) n x f g = absurd f
times_less (Some t) (Shared shared) n x f g = absurd f
times_less (Some t) (Special builtin) n x f g = absurd f
times_less (Some t) (Unary operator operand) n x f g = absurd f
times_less (Some t) (Binary operator left right) n x f g = absurd f

turns_less : (t : Option ℕ) (j : ℕ) (x : Steps) → x.through ≡ t → Less (one_more (followed x (turns_steps (pos j) t x))) (turns_steps (pos (suc j)) t x)
turns_less None j x e = sure_turn x e
turns_less (Some t) j x e = turn _ t _ x (omega arith) e

turns_end : (t : Option ℕ) (c : ℤ) (x : Steps) → Less (one_more (only_through 0)) (turns_steps c t x)
turns_end None c x = last_test 1 x (omega arith)
turns_end (Some t) c x = last_test _ x (omega arith)

way_times : (count t : Option ℕ) (x : Steps) → HasWay (times_steps count t x)
way_times count None x = inl tt
way_times None (Some t) x = inl tt
way_times (Some n) (Some t) x = inl tt

way_turns : (c : ℤ) (t : Option ℕ) (x : Steps) → HasWay (turns_steps c t x)
way_turns c None x = inl tt
way_turns c (Some t) x = inl tt

way_pause : (pause : Pause) → HasWay (pause_steps pause)
way_pause (Cooperate None) = inr tt
way_pause (Cooperate (Some e)) = inl tt
way_pause (Await events limit) = inl tt
way_pause (Get event index target) = inl tt
way_pause (Join thread limit) = inl tt
way_pause (Link s) = inr tt
way_pause Unlink = inr tt
way_pause Halt = inr tt

way_module : (o : Option Steps) → ((v : Steps) → o ≡ Some v → HasWay v) → HasWay (steps_or_none o)
way_module None h = inl tt
way_module (Some v) h = h v refl

module _ (of : ModuleId → Option Steps) where
  abbrev pub work_steps : List Work → Steps
  work_steps [] = only_through 0
  work_steps (Begin s ∷ w) = followed (step_steps of s) (work_steps w)
  work_steps (Again test x ∷ w) = followed (turning 1 (body_steps of x)) (work_steps w)
  work_steps (Turns c x ∷ w) = followed (turns_steps c (body_steps of x).through (body_steps of x)) (work_steps w)

  -- Each loop ends by itself or makes a sure statement in each turn, each module that is run has a bound, and each stop has a
  -- number.
  abbrev mutual
    pub StepFine : Step → Type 0
    StepFine (Do action) = Unit {0}
    StepFine (Hold k pause) = 0 < k
    StepFine (Call k m arguments) = (v : Steps) × (of m ≡ Some v) × (0 < k)
    StepFine (Choose test x y) = BodyFine x × BodyFine y
    StepFine (Loop test x) = BodyFine x × ((body_steps of x).through ≡ None)
    StepFine (Times count x) = BodyFine x × CountFine (body_steps of x).through (literal count)

    pub BodyFine : Body → Type 0
    BodyFine Empty = Unit {0}
    BodyFine (Then s b) = StepFine s × BodyFine b

  abbrev pub WorkFine : List Work → Type 0
  WorkFine [] = Unit {0}
  WorkFine (Begin s ∷ w) = StepFine s × WorkFine w
  WorkFine (Again test x ∷ w) = BodyFine x × ((body_steps of x).through ≡ None) × WorkFine w
  WorkFine (Turns c x ∷ w) = BodyFine x × WorkFine w

  pub before_steps : (b : Body) (w : List Work) → Less (work_steps (body_then b w)) (followed (body_steps of b) (work_steps w))
  before_steps Empty w = nothing_first (work_steps w)
  before_steps (Then s b) w =
      less_trans _ _ _ (followed_less (step_steps of s) (step_steps of s) _ _ (less_refl (step_steps of s)) (before_steps b w))
      (followed_twice (step_steps of s) (body_steps of b) (work_steps w))

  pub before_fine : (b : Body) (w : List Work) → BodyFine b → WorkFine w → WorkFine (body_then b w)
  before_fine Empty w f g = g
  before_fine (Then s b) w f g = (f.0, before_fine b w f.1 g)

  -- ---- what comes next

  abbrev pub NextLess : Next (List Work) → Steps → Type 0
  NextLess Finish s = ⊥
  NextLess Stuck s = ⊥
  NextLess (Acts action w) s = Less (one_more (work_steps w)) s
  NextLess (Advances w) s = Less (one_more (work_steps w)) s
  NextLess (Tests test v u) s = Less (one_more (work_steps v)) s × Less (one_more (work_steps u)) s
  NextLess (Counts count f) s = (n : ℤ) → IsCount count n → Less (one_more (work_steps (f n))) s
  NextLess (Holds k pause w) s = Less (followed (pause_steps pause) (work_steps w)) s
  NextLess (Runs k m arguments w) s = (v : Steps) × (of m ≡ Some v) × Less (one_more (followed v (work_steps w))) s

  abbrev pub NextFine : Next (List Work) → Type 0
  NextFine Finish = Unit {0}
  NextFine Stuck = Unit {0}
  NextFine (Acts action w) = WorkFine w
  NextFine (Advances w) = WorkFine w
  NextFine (Tests test v u) = WorkFine v × WorkFine u
  NextFine (Counts count f) = (n : ℤ) → WorkFine (f n)
  NextFine (Holds k pause w) = (0 < k) × WorkFine w
  NextFine (Runs k m arguments w) = (0 < k) × WorkFine w

  -- a body first, of which a step is made
  body_less : (b : Body) (x : Steps) (w : List Work) → Less (one_more (body_steps of b)) x → Less (one_more (work_steps (body_then b w))) (followed x (work_steps w))
  body_less b x w f = less_trans _ _ _ (one_more_less _ _ (before_steps b w)) (push (body_steps of b) x (work_steps w) f)

  -- a body and then a piece of work of its loop
  turn_less : (b : Body) (y x : Steps) (w v : List Work) → work_steps v ≡ followed y (work_steps w) → Less (one_more (followed (body_steps of b) y)) x
      → Less (one_more (work_steps (body_then b v))) (followed x (work_steps w))
  turn_less b y x w v e f =
      let all = followed (body_steps of b) (followed y (work_steps w)) in
      let first : Less (work_steps (body_then b v)) all = subst (λ (s : Steps). Less (work_steps (body_then b v)) (followed (body_steps of b) s)) e (before_steps b v) in
      less_trans _ _ _ (one_more_less _ _ (less_trans _ _ _ first (followed_twice (body_steps of b) y (work_steps w)))) (push (followed (body_steps of b) y) x (work_steps w) f)

  call_less : (o : Option Steps) (v : Steps) (w : Steps) → o ≡ Some v → Less (one_more (followed v w)) (followed (one_more (steps_or_none o)) w)
  call_less o v w e = subst (λ (u : Option Steps). Less (one_more (followed v w)) (followed (one_more (steps_or_none u)) w)) (sym e) (one_first v w)

  begin_less : (s : Step) (w : List Work) → StepFine s → NextLess (next_begin s w) (followed (step_steps of s) (work_steps w))
  begin_less (Do action) w f = step_off (only_through 1) (work_steps w) (less_refl (only_through 1))
  begin_less (Hold k pause) w f = less_refl _
  begin_less (Call k m arguments) w f = (f.0, f.1, call_less (of m) f.0 (work_steps w) f.1)
  begin_less (Choose test x y) w f =
      let both = one_more (either (body_steps of x) (body_steps of y)) in (
        body_less x both w (one_more_less _ _ (either_first (body_steps of x) (body_steps of y))),
        body_less y both w (one_more_less _ _ (either_second (body_steps of x) (body_steps of y))),
      )
  begin_less (Loop test x) w f = one_first (turning 1 (body_steps of x)) (work_steps w)
  begin_less (Times count x) w f = λ n g. push _ _ (work_steps w) (times_less (body_steps of x).through count n (body_steps of x) f.1 g)

  turn_next : (n : ℤ) (x : Body) (w : List Work) → NextLess (next_turn n x w) (work_steps (Turns n x ∷ w))
  turn_next (pos zero) x w = step_off _ (work_steps w) (turns_end (body_steps of x).through (pos zero) (body_steps of x))
  turn_next (pos (suc j)) x w =
      turn_less x (turns_steps (pos j) (body_steps of x).through (body_steps of x)) _ w (Turns (pos j) x ∷ w) refl (turns_less (body_steps of x).through j (body_steps of x) refl)
  turn_next (negsuc n) x w = step_off _ (work_steps w) (turns_end (body_steps of x).through (negsuc n) (body_steps of x))

  pub next_less : (one : Work) (w : List Work) → WorkFine (one ∷ w) → NextLess (next_work (one ∷ w)) (work_steps (one ∷ w))
  next_less (Begin s) w f = begin_less s w f.0
  next_less (Again test x) w f = (
    turn_less x (turning 1 (body_steps of x)) (turning 1 (body_steps of x)) w (Again test x ∷ w) refl (sure_turn (body_steps of x) f.1),
    step_off (turning 1 (body_steps of x)) (work_steps w) (last_test 1 (body_steps of x) (omega arith)),
  )
  next_less (Turns n x) w f = turn_next n x w

  begin_fine : (s : Step) (w : List Work) → StepFine s → WorkFine w → NextFine (next_begin s w)
  begin_fine (Do action) w f g = g
  begin_fine (Hold k pause) w f g = (f, g)
  begin_fine (Call k m arguments) w f g = (f.2, g)
  begin_fine (Choose test x y) w f g = (before_fine x w f.0 g, before_fine y w f.1 g)
  begin_fine (Loop test x) w f g = (f.0, f.1, g)
  begin_fine (Times count x) w f g = λ n. (f.0, g)

  turn_fine : (n : ℤ) (x : Body) (w : List Work) → BodyFine x → WorkFine w → NextFine (next_turn n x w)
  turn_fine (pos zero) x w f g = g
  turn_fine (pos (suc j)) x w f g = before_fine x (Turns (pos j) x ∷ w) f (f, g)
  turn_fine (negsuc n) x w f g = g

  pub next_fine : (w : List Work) → WorkFine w → NextFine (next_work w)
  next_fine [] f = tt
  next_fine (Begin s ∷ w) f = begin_fine s w f.0 f.1
  next_fine (Again test x ∷ w) f = (before_fine x (Again test x ∷ w) f.0 f, f.2)
  next_fine (Turns n x ∷ w) f = turn_fine n x w f.0 f.1

  -- ---- after a stop

  abbrev IfFine : Option (List Work) → Type 0
  IfFine None = Unit {0}
  IfFine (Some w) = WorkFine w

  first_fine : (a b : Option (List Work)) → IfFine a → IfFine b → IfFine (first_some a b)
  first_fine None b f g = g
  first_fine (Some w) b f g = f

  at_fine : (here k : ℕ) (w : List Work) → WorkFine w → IfFine (at_stop here k w)
  at_fine here k w f = by (here == k)
    where
      by : (b : Bool) → IfFine (if b then Some w else None)
      by true = f
      by false = tt

  mutual
    after_fine_step : (s : Step) (k : ℕ) (cs : List ℤ) (w : List Work) → StepFine s → WorkFine w → IfFine (after_step s k cs w)
    after_fine_step (Do action) k cs w f g = tt
    after_fine_step (Hold here pause) k cs w f g = at_fine here k w g
    after_fine_step (Call here m arguments) k cs w f g = at_fine here k w g
    after_fine_step (Choose test x y) k cs w f g = first_fine (after_body x k cs w) (after_body y k cs w) (after_fine_body x k cs w f.0 g) (after_fine_body y k cs w f.1 g)
    after_fine_step (Loop test x) k cs w f g = after_fine_body x k cs (Again test x ∷ w) f.0 (f.0, f.1, g)
    after_fine_step (Times count x) k cs w f g = after_fine_body x k (drop 1 cs) (Turns (first_count cs) x ∷ w) f.0 (f.0, g)

    after_fine_body : (b : Body) (k : ℕ) (cs : List ℤ) (w : List Work) → BodyFine b → WorkFine w → IfFine (after_body b k cs w)
    after_fine_body Empty k cs w f g = tt
    after_fine_body (Then s b) k cs w f g =
        first_fine (after_step s k cs (body_then b w)) (after_body b k cs w) (after_fine_step s k cs (body_then b w) f.0 (before_fine b w f.1 g)) (after_fine_body b k cs w f.1 g)

  -- ---- each work has a way

  module _ (table : (m : ModuleId) (v : Steps) → of m ≡ Some v → HasWay v) where
    mutual
      way_step : (s : Step) → HasWay (step_steps of s)
      way_step (Do action) = inl tt
      way_step (Hold k pause) = way_pause pause
      way_step (Call k m arguments) = way_one_more (steps_or_none (of m)) (way_module (of m) (table m))
      way_step (Choose test x y) = way_one_more (either (body_steps of x) (body_steps of y)) (way_either (body_steps of x) (body_steps of y) (way_body x))
      way_step (Loop test x) = inl tt
      way_step (Times count x) = way_times (literal count) (body_steps of x).through (body_steps of x)

      pub way_body : (b : Body) → HasWay (body_steps of b)
      way_body Empty = inl tt
      way_body (Then s b) = way_followed (step_steps of s) (body_steps of b) (way_step s) (way_body b)

    pub way_work : (w : List Work) → HasWay (work_steps w)
    way_work [] = inl tt
    way_work (Begin s ∷ w) = way_followed (step_steps of s) (work_steps w) (way_step s) (way_work w)
    way_work (Again test x ∷ w) = way_followed (turning 1 (body_steps of x)) (work_steps w) (inl tt) (way_work w)
    way_work (Turns c x ∷ w) = way_followed (turns_steps c (body_steps of x).through (body_steps of x)) (work_steps w) (way_turns c (body_steps of x).through (body_steps of x)) (way_work w)
