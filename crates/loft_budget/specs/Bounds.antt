-- Modules whose threads never pass a number of steps in an instant (docs/SEMANTICS.md, "Step bounds").
use Rattle.std.specs.Prelude.{◌≡◌, ◌⊎◌, ℕ, zero, suc, ◌≤◌, nat_le, Bool, true, ◌&&◌, ◌||◌, List, [], ◌∷◌, Option, Some, None, is_some, is_none, max, slice_get, if◌then◌else◌}
use Rattle.loft_base.specs.declared.ids.ModuleId.{ModuleId}
use Rattle.loft_tree.specs.Resolved.{Step, Call, Choose, Loop, Times, Body, Empty, Then, Resolved}
use Rattle.loft_base.specs.declared.ids.ThreadId.{ThreadId}
use Rattle.loft_base.specs.declared.options.Limits.{Limits}
use Rattle.loft_orders.specs.declared.note.Act.{Act}
use Rattle.loft_orders.specs.declared.note.Act.TheVariants as act
use Rattle.loft_orders.specs.declared.note.Standing.{Standing}
use Rattle.loft_orders.specs.declared.order.End.{End}
use Rattle.loft_orders.specs.declared.order.End.TheVariants as end
use Rattle.loft_orders.specs.declared.order.Order.{Order}
use Rattle.loft_orders.specs.declared.order.Order.TheVariants as order
use Rattle.loft_orders.specs.declared.thread.Frame.{Frame}
use Rattle.loft_orders.specs.declared.thread.Thread.{Thread}
use Rattle.loft_budget.specs.declared.steps.Steps.{Steps}
use Rattle.loft_budget.specs.Steps.{plus, literal, body_steps}

-- with the steps of the modules that have a bound
module _ (of : ModuleId → Option Steps) where
  -- each module that is run has a bound
  abbrev mutual
    pub step_runs_bounded : Step → Bool
    step_runs_bounded (Call k m arguments) = is_some (of m)
    step_runs_bounded (Choose test x y) = runs_bounded x && runs_bounded y
    step_runs_bounded (Loop test x) = runs_bounded x
    step_runs_bounded (Times count x) = runs_bounded x
    step_runs_bounded s = true

    pub runs_bounded : Body → Bool
    runs_bounded Empty = true
    runs_bounded (Then s b) = step_runs_bounded s && runs_bounded b

  -- each loop makes a sure statement in each turn, or is a `repeat` of a bare number
  abbrev mutual
    pub step_loops_end : Step → Bool
    step_loops_end (Choose test x y) = loops_end x && loops_end y
    step_loops_end (Loop test x) = loops_end x && is_none (body_steps of x).through
    step_loops_end (Times count x) = loops_end x && (is_none (body_steps of x).through || is_some (literal count))
    step_loops_end s = true

    pub loops_end : Body → Bool
    loops_end Empty = true
    loops_end (Then s b) = step_loops_end s && loops_end b

abbrev pub or_zero : Option ℕ → ℕ
or_zero None = 0
or_zero (Some n) = n

-- the most steps of a thread in an instant: going on or beginning is one step more
abbrev pub bound_of : Steps → ℕ
bound_of x = max (max (or_zero (plus (Some 1) x.through)) (or_zero (plus (Some 1) x.head))) (max (or_zero x.tail) (or_zero x.most))

abbrev pub most_bound : ℕ
most_bound = 1000000

-- the steps of a declared module with this body, where it has a bound
abbrev pub bounded_steps : (ModuleId → Option Steps) → Option Body → Option Steps
bounded_steps of None = None
bounded_steps of (Some b) = if runs_bounded of b && loops_end of b && nat_le (bound_of (body_steps of b)) most_bound then Some (body_steps of b) else None

-- The steps of a module that has a bound, and runs others at most so deep.
abbrev pub steps_within : Resolved → ℕ → ModuleId → Option Steps
steps_within p zero m = None
steps_within p (suc k) m = bounded_steps (steps_within p k) (slice_get p.bodies m.0)

-- the module has this bound
abbrev pub HasBound : Resolved → ModuleId → ℕ → Type 0
HasBound p m n = (k : ℕ) × (x : Steps) × (steps_within p k m ≡ Some x) × (bound_of x ≡ n)

-- ---- threads

-- the module with which a thread began
abbrev pub outermost : List Frame → Option ModuleId
outermost [] = None
outermost (f ∷ fs) = Some f.module

-- the module has a bound that both budgets allow
abbrev pub IsBounded : Resolved → Limits → ModuleId → Type 0
IsBounded p limits m = (n : ℕ) × HasBound p m n × (n ≤ limits.budget) × (n ≤ limits.block)

-- this is no such module
abbrev pub HasNoBound : Resolved → Limits → Option ModuleId → Type 0
HasNoBound p limits o = (m : ModuleId) → o ≡ Some m → IsBounded p limits m → ⊥

-- ---- ends in an instant or a block

abbrev pub IsAmong : Standing → List Standing → Type 0
IsAmong s [] = ⊥
IsAmong s (q ∷ qs) = (s ≡ q) ⊎ IsAmong s qs

-- where a thread has ended with Over, it is one of these, and its outermost module has no bound that both budgets allow
abbrev pub OverBy : Resolved → Limits → List Standing → ThreadId → End → Type 0
OverBy p limits linked t (end.Over at) = (s : Standing) × IsAmong s linked × (s.thread.id ≡ t) × HasNoBound p limits (outermost s.thread.frames)
OverBy p limits linked t e = Unit {0}

abbrev pub ActOverBy : Resolved → Limits → List Standing → Act → Type 0
ActOverBy p limits linked (act.End t end) = OverBy p limits linked t end
ActOverBy p limits linked one = Unit {0}

-- the same of a thread alone
abbrev pub OverOf : Resolved → Limits → Thread → ThreadId → End → Type 0
OverOf p limits t u (end.Over at) = (t.id ≡ u) × HasNoBound p limits (outermost t.frames)
OverOf p limits t u e = Unit {0}

abbrev pub OrderOverOf : Resolved → Limits → Thread → Order → Type 0
OrderOverOf p limits t (order.Ended u end) = OverOf p limits t u end
OrderOverOf p limits t o = Unit {0}

-- ---- a thread by its id

-- where the order makes the thread, its module has a bound that both budgets allow
abbrev pub MakesBounded : Resolved → Limits → ThreadId → Order → Type 0
MakesBounded p limits t (order.Create u m args) = u ≡ t → IsBounded p limits m
MakesBounded p limits t o = Unit {0}

-- an end that isn't the thread's with Over
abbrev pub Spares : ThreadId → ThreadId → End → Type 0
Spares t u (end.Over at) = u ≡ t → ⊥
Spares t u e = Unit {0}

abbrev pub OrderSpares : ThreadId → Order → Type 0
OrderSpares t (order.Ended u end) = Spares t u end
OrderSpares t o = Unit {0}

abbrev pub ActSpares : ThreadId → Act → Type 0
ActSpares t (act.End u end) = Spares t u end
ActSpares t one = Unit {0}
