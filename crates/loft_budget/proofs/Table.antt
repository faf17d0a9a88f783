-- The steps of modules, as deep as they run others, are those of their bodies.
use Rattle.std.proofs.Common.{◌≡◌, ℕ, zero, suc, ◌<◌, ◌≤◌, Bool, true, false, Option, Some, None, refl, sym, ap, ◌∙◌, subst, arith}
use Rattle.std.specs.Prelude.{is_none, ◌&&◌, ◌||◌, is_some, nat_le, if◌then◌else◌, slice_get, unwrap_or}
use Rattle.std.proofs.lemmas.Bool.{and_parts}
use Rattle.loft_base.specs.declared.ids.ModuleId.{ModuleId}
use Rattle.loft_tree.specs.Resolved.{Step, Do, Hold, Call, Choose, Loop, Times, Body, Empty, Then, Resolved}
use Rattle.loft_sense.specs.Tree.{body_at}
use Rattle.loft_soundness.specs.Numbered.{StepNumbered, BodyNumbered, IsNumbered}
use Rattle.loft_budget.specs.declared.steps.Steps.{Steps}
use Rattle.loft_budget.specs.Steps.{plus, followed, either, one_more, loop_steps, literal, times_steps, steps_or_none, step_steps, body_steps}
use Rattle.loft_budget.specs.Bounds.{step_runs_bounded, runs_bounded, step_loops_end, loops_end, or_zero, bound_of, most_bound, bounded_steps, steps_within}
use Rattle.loft_budget.proofs.Sums.{AtMost}
use Rattle.loft_budget.proofs.Order.{Within, HasWay}
use Rattle.loft_budget.proofs.WorkSteps.{CountFine, StepFine, BodyFine, way_body}
use Rattle.loft_budget.proofs.Runs.{IsTable}

pub both_true : (a b : Bool) → a ≡ true → b ≡ true → (a && b) ≡ true
both_true true b e f = f
both_true false b e f = absurd cc

pub none_is : (o : Option ℕ) → is_none o ≡ true → o ≡ None
none_is None e = refl
none_is (Some n) e = absurd cc

pub some_there : (o : Option Steps) → is_some o ≡ true → (v : Steps) × (o ≡ Some v)
some_there None e = absurd cc
some_there (Some v) e = (v, refl)

pub is_there : (o : Option Steps) (v : Steps) → o ≡ Some v → is_some o ≡ true
is_there o v e = ap (λ (u : Option Steps). is_some u) e

pub count_fine : (t count : Option ℕ) → (is_none t || is_some count) ≡ true → CountFine t count
count_fine None count e = tt
count_fine (Some n) None e = absurd cc
count_fine (Some n) (Some c) e = tt

-- ---- more modules with a bound change nothing

module _ (f g : ModuleId → Option Steps) (more : (m : ModuleId) (v : Steps) → f m ≡ Some v → g m ≡ Some v) where
  abbrev pub StepSame : Step → Type 0
  StepSame s = (step_steps g s ≡ step_steps f s) × (step_runs_bounded g s ≡ true) × (step_loops_end g s ≡ step_loops_end f s)

  abbrev pub BodySame : Body → Type 0
  BodySame b = (body_steps g b ≡ body_steps f b) × (runs_bounded g b ≡ true) × (loops_end g b ≡ loops_end f b)

  called_same : (o u : Option Steps) → ((v : Steps) → o ≡ Some v → u ≡ Some v) → is_some o ≡ true → (one_more (steps_or_none u) ≡ one_more (steps_or_none o)) × (is_some u ≡ true)
  called_same o u h e =
      let v = some_there o e in
      let here = h v.0 v.1 in
      (ap (λ (x : Option Steps). one_more (steps_or_none x)) (here ∙ sym v.1), is_there u v.0 here)

  mutual
    step_same : (s : Step) → step_runs_bounded f s ≡ true → StepSame s
    step_same (Do action) e = (refl, refl, refl)
    step_same (Hold k pause) e = (refl, refl, refl)
    step_same (Call k m arguments) e = let c = called_same (f m) (g m) (more m) e in (c.0, c.1, refl)
    step_same (Choose test x y) e =
        let parts = and_parts (runs_bounded f x) (runs_bounded f y) e in
        let a = body_same x parts.0 in
        let b = body_same y parts.1 in (
          ap (λ (u : Steps). one_more (either u (body_steps g y))) a.0 ∙ ap (λ (u : Steps). one_more (either (body_steps f x) u)) b.0,
          both_true _ _ a.1 b.1,
          ap (λ (u : Bool). u && loops_end g y) a.2 ∙ ap (λ (u : Bool). loops_end f x && u) b.2,
        )
    step_same (Loop test x) e =
        let a = body_same x e in
        (ap loop_steps a.0, a.1, ap (λ (u : Bool). u && is_none (body_steps g x).through) a.2 ∙ ap (λ (u : Steps). loops_end f x && is_none u.through) a.0)
    step_same (Times count x) e =
        let a = body_same x e in (
          ap (λ (u : Steps). times_steps (literal count) u.through u) a.0,
          a.1,
          ap (λ (u : Bool). u && (is_none (body_steps g x).through || is_some (literal count))) a.2 ∙ ap (λ (u : Steps). loops_end f x && (is_none u.through || is_some (literal count))) a.0,
        )

    pub body_same : (b : Body) → runs_bounded f b ≡ true → BodySame b
    body_same Empty e = (refl, refl, refl)
    body_same (Then s b) e =
        let parts = and_parts (step_runs_bounded f s) (runs_bounded f b) e in
        let a = step_same s parts.0 in
        let c = body_same b parts.1 in (
          ap (λ (u : Steps). followed u (body_steps g b)) a.0 ∙ ap (λ (u : Steps). followed (step_steps f s) u) c.0,
          both_true _ _ a.1 c.1,
          ap (λ (u : Bool). u && loops_end g b) a.2 ∙ ap (λ (u : Bool). step_loops_end f s && u) c.2,
        )

-- ---- such a body is fine

module _ (of : ModuleId → Option Steps) where
  mutual
    step_fine : (s : Step) (n : ℕ) → StepNumbered s n → step_runs_bounded of s ≡ true → step_loops_end of s ≡ true → StepFine of s
    step_fine (Do action) n h e f = tt
    step_fine (Hold k pause) n h e f = omega (arith, h)
    step_fine (Call k m arguments) n h e f =
        let v = some_there (of m) e in
        let some : 0 < k = omega (arith, h) in
        (v.0, v.1, some)
    step_fine (Choose test x y) n h e f =
        let runs = and_parts (runs_bounded of x) (runs_bounded of y) e in
        let loops = and_parts (loops_end of x) (loops_end of y) f in
        (body_fine x n h.0 runs.0 loops.0, body_fine y _ h.1 runs.1 loops.1)
    step_fine (Loop test x) n h e f = let loops = and_parts (loops_end of x) (is_none (body_steps of x).through) f in (body_fine x n h e loops.0, none_is (body_steps of x).through loops.1)
    step_fine (Times count x) n h e f =
        let loops = and_parts (loops_end of x) (is_none (body_steps of x).through || is_some (literal count)) f in
        (body_fine x n h e loops.0, count_fine (body_steps of x).through (literal count) loops.1)

    body_fine : (b : Body) (n : ℕ) → BodyNumbered b n → runs_bounded of b ≡ true → loops_end of b ≡ true → BodyFine of b
    body_fine Empty n h e f = tt
    body_fine (Then s b) n h e f =
        let runs = and_parts (step_runs_bounded of s) (runs_bounded of b) e in
        let loops = and_parts (step_loops_end of s) (loops_end of b) f in
        (step_fine s n h.0 runs.0 loops.0, body_fine b _ h.1 runs.1 loops.1)

-- ---- modules

-- what a module with a bound was asked
pub record Asked (of : ModuleId → Option Steps) (b : Body) (v : Steps) : Type 0 where
  pub runs : runs_bounded of b ≡ true
  pub loops : loops_end of b ≡ true
  pub small : nat_le (bound_of (body_steps of b)) most_bound ≡ true
  pub is : body_steps of b ≡ v

pub asked_if : (of : ModuleId → Option Steps) (b : Body) (v : Steps) (runs loops small : Bool) → runs_bounded of b ≡ runs → loops_end of b ≡ loops → nat_le (bound_of (body_steps of b)) most_bound ≡ small
    → (if runs && loops && small then Some (body_steps of b) else None) ≡ Some v → Asked of b v
asked_if of b v true true true e f g h = record { runs = e; loops = f; small = g; is = cc }
asked_if of b v true true false e f g h = absurd cc
asked_if of b v true false small e f g h = absurd cc
asked_if of b v false loops small e f g h = absurd cc

asked_some : (of : ModuleId → Option Steps) (o : Option Body) (v : Steps) → bounded_steps of o ≡ Some v → (b : Body) × (o ≡ Some b) × Asked of (unwrap_or o Empty) v
asked_some of None v e = absurd cc
asked_some of (Some b) v e = (b, refl, asked_if of b v _ _ _ refl refl refl e)

pub bounded_by : (of : ModuleId → Option Steps) (b : Body) (v : Steps) → Asked of b v → bounded_steps of (Some b) ≡ Some v
bounded_by of b v a = ap (λ (c : Bool). if c then Some (body_steps of b) else None) (both_true _ _ (both_true _ _ a.runs a.loops) a.small) ∙ ap Some a.is

module _ (p : Resolved) where
  declared : (k : ℕ) (m : ModuleId) (v : Steps) → steps_within p (suc k) m ≡ Some v → (b : Body) × (slice_get p.bodies m.0 ≡ Some b)
  declared k m v e = let a = asked_some (steps_within p k) (slice_get p.bodies m.0) v e in (a.0, a.1)

  pub asked : (k : ℕ) (m : ModuleId) (v : Steps) → steps_within p (suc k) m ≡ Some v → Asked (steps_within p k) (body_at p m) v
  asked k m v e = (asked_some (steps_within p k) (slice_get p.bodies m.0) v e).2

  pub answered : (k : ℕ) (m : ModuleId) (b : Body) (v : Steps) → slice_get p.bodies m.0 ≡ Some b → Asked (steps_within p k) (body_at p m) v → steps_within p (suc k) m ≡ Some v
  answered k m b v at a =
      ap (bounded_steps (steps_within p k)) at ∙ bounded_by (steps_within p k) b v (subst (λ (o : Option Body). Asked (steps_within p k) (unwrap_or o Empty) v) at a)

  abbrev Goes : ℕ → Type 0
  Goes k = (m : ModuleId) (v : Steps) → steps_within p k m ≡ Some v → steps_within p (suc k) m ≡ Some v

  -- the same with the table of the next depth
  deeper : (k : ℕ) → Goes k → (m : ModuleId) (v : Steps) → Asked (steps_within p k) (body_at p m) v → Asked (steps_within p (suc k)) (body_at p m) v
  deeper k h m v a =
      let same = body_same (steps_within p k) (steps_within p (suc k)) h (body_at p m) a.runs in
      record {
        runs = same.1;
        loops = same.2 ∙ a.loops;
        small = ap (λ (x : Steps). nat_le (bound_of x) most_bound) same.0 ∙ a.small;
        is = same.0 ∙ a.is;
      }

  pub one_deeper : (k : ℕ) (m : ModuleId) (v : Steps) → steps_within p k m ≡ Some v → steps_within p (suc k) m ≡ Some v
  one_deeper zero m v e = absurd cc
  one_deeper (suc k) m v e = let d = declared k m v e in answered (suc k) m d.0 v d.1 (deeper k (one_deeper k) m v (asked k m v e))

  -- what a module with a bound is asked, by its own table
  own_asked : (k : ℕ) (m : ModuleId) (v : Steps) → steps_within p k m ≡ Some v → Asked (steps_within p k) (body_at p m) v
  own_asked zero m v e = absurd cc
  own_asked (suc k) m v e = deeper k (one_deeper k) m v (asked k m v e)

  module_way : (k : ℕ) (m : ModuleId) (v : Steps) → steps_within p k m ≡ Some v → HasWay v
  module_way zero m v e = absurd cc
  module_way (suc k) m v e = subst HasWay (asked k m v e).is (way_body (steps_within p k) (module_way k) (body_at p m))

  pub is_table : IsNumbered p → (k : ℕ) → IsTable p (steps_within p k)
  is_table numbered k = record {
    way = module_way k;
    steps = λ m v e. (own_asked k m v e).is;
    fine = λ m v e. let a = own_asked k m v e in body_fine (steps_within p k) (body_at p m) 0 (numbered m) a.runs a.loops;
  }

-- ---- the bound

most_of : (a : Option ℕ) (n : ℕ) → or_zero a ≤ n → AtMost a n
most_of None n f = tt
most_of (Some m) n f = f

pub bound_holds : (v : Steps) (n : ℕ) → bound_of v ≤ n → Within n n (one_more v)
bound_holds v n f =
    let a : or_zero (plus (Some 1) v.through) ≤ n = omega (arith, f) in
    let b : or_zero (plus (Some 1) v.head) ≤ n = omega (arith, f) in
    let c : or_zero v.tail ≤ n = omega (arith, f) in
    let d : or_zero v.most ≤ n = omega (arith, f) in
    record { through = most_of (plus (Some 1) v.through) n a; head = most_of (plus (Some 1) v.head) n b; tail = most_of v.tail n c; most = most_of v.most n d }
