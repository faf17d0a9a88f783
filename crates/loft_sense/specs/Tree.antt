-- Where a thread goes on in a source tree: by the list of the work that is left in a module (docs/SEMANTICS.md, "Tree").
use Rattle.std.specs.Prelude.{ℕ, zero, suc, ℤ, pos, negsuc, List, [], ◌∷◌, drop, reverse, Option, Some, None, unwrap_or, if◌then◌else◌, ◌==◌, slice_get}
use Rattle.loft_base.specs.declared.ids.ModuleId.{ModuleId}
use Rattle.loft_tree.specs.Resolved.{Exp, Pause, Step, Do, Hold, Call, Choose, Loop, Times, Body, Empty, Then, Resolved}
use Rattle.loft_sense.specs.Run.{Next, Finish, Acts, Advances, Tests, Counts, Holds, Runs, Control}

-- one piece of work, which takes one step
pub data Work : Type 0 where
  -- a statement
  Begin : (s : Step) → Work
  -- the next test of a `while`
  Again : (test : Exp) (body : Body) → Work
  -- the next turn of a `repeat`, with so many turns still to come
  Turns : (count : ℤ) (body : Body) → Work

-- the statements of a body, and then the rest
abbrev pub body_then : Body → List Work → List Work
body_then Empty w = w
body_then (Then s rest) w = Begin s ∷ body_then rest w

-- a statement, and what is left after it
abbrev pub next_begin : Step → List Work → Next (List Work)
next_begin (Do action) w = Acts action w
next_begin (Hold k pause) w = Holds k pause w
next_begin (Call k m arguments) w = Runs k m arguments w
next_begin (Choose test first second) w = Tests test (body_then first w) (body_then second w)
next_begin (Loop test body) w = Advances (Again test body ∷ w)
next_begin (Times count body) w = Counts count (λ n. Turns n body ∷ w)

-- a turn of a `repeat`, while turns are to come
abbrev pub next_turn : ℤ → Body → List Work → Next (List Work)
next_turn (pos zero) body w = Advances w
next_turn (pos (suc n)) body w = Advances (body_then body (Turns (pos n) body ∷ w))
next_turn (negsuc n) body w = Advances w

abbrev pub next_work : List Work → Next (List Work)
next_work [] = Finish
next_work (Begin s ∷ w) = next_begin s w
next_work (Again test body ∷ w) = Tests test (body_then body (Again test body ∷ w)) w
next_work (Turns n body ∷ w) = next_turn n body w

-- the counts of the `repeat`s that are left, from the inside out
abbrev pub counts_in : List Work → List ℤ
counts_in [] = []
counts_in (Begin s ∷ w) = counts_in w
counts_in (Again test body ∷ w) = counts_in w
counts_in (Turns n body ∷ w) = n ∷ counts_in w

-- ---- stops

-- the first that is there
abbrev pub first_some : {A : Type 0} → Option A → Option A → Option A
first_some None o = o
first_some (Some x) o = Some x

abbrev pub at_stop : {A : Type 0} → ℕ → ℕ → A → Option A
at_stop here k x = if here == k then Some x else None

abbrev pub first_count : List ℤ → ℤ
first_count [] = pos 0
first_count (n ∷ ns) = n

-- What is left once stop k has ended, where w is left after the statement or the body and these are the counts in it, from
-- the outside in: the rest of its own body, then outwards the rest after each `if`, the next test or turn of each loop and
-- the rest after that.
abbrev mutual
  pub after_step : Step → ℕ → List ℤ → List Work → Option (List Work)
  after_step (Do action) k counts w = None
  after_step (Hold here pause) k counts w = at_stop here k w
  after_step (Call here m arguments) k counts w = at_stop here k w
  after_step (Choose test first second) k counts w = first_some (after_body first k counts w) (after_body second k counts w)
  after_step (Loop test body) k counts w = after_body body k counts (Again test body ∷ w)
  after_step (Times count body) k counts w = after_body body k (drop 1 counts) (Turns (first_count counts) body ∷ w)

  pub after_body : Body → ℕ → List ℤ → List Work → Option (List Work)
  after_body Empty k counts w = None
  after_body (Then s rest) k counts w = first_some (after_step s k counts (body_then rest w)) (after_body rest k counts w)

-- the statement that is stop k
abbrev mutual
  pub stop_at_step : Step → ℕ → Option Step
  stop_at_step (Do action) k = None
  stop_at_step (Hold here pause) k = at_stop here k (Hold here pause)
  stop_at_step (Call here m arguments) k = at_stop here k (Call here m arguments)
  stop_at_step (Choose test first second) k = first_some (stop_at first k) (stop_at second k)
  stop_at_step (Loop test body) k = stop_at body k
  stop_at_step (Times count body) k = stop_at body k

  pub stop_at : Body → ℕ → Option Step
  stop_at Empty k = None
  stop_at (Then s rest) k = first_some (stop_at_step s k) (stop_at rest k)

-- what it waits for; nothing where it is a `run`
abbrev pub pause_of_step : Option Step → Option Pause
pause_of_step (Some (Hold k pause)) = Some pause
pause_of_step s = None

-- ---- the control of trees

-- the body of a module, an empty one if there is no such module
abbrev pub body_at : Resolved → ModuleId → Body
body_at p m = unwrap_or (slice_get p.bodies m.0) Empty

-- the work that is left in a module once stop k has ended
abbrev pub after : Resolved → ModuleId → ℕ → List ℤ → List Work
after p m k counts = unwrap_or (after_body (body_at p m) k counts []) []

-- what stop k of a module waits for; the begin, which counts as stop 0, waits for nothing
abbrev pub pause_at : Resolved → ModuleId → ℕ → Option Pause
pause_at p m zero = None
pause_at p m (suc k) = pause_of_step (stop_at (body_at p m) (suc k))

abbrev pub tree : Resolved → Control (List Work)
tree p = record {
  heads = p.heads;
  start = λ m. body_then (body_at p m) [];
  resume = after p;
  pause = pause_at p;
  counts = λ w. reverse (counts_in w);
  next = λ m w. next_work w;
}
