-- The passes of an instant: all linked threads in order, again and again, until nobody runs (docs/SEMANTICS.md, "Passes").
use Rattle.std.specs.Prelude.{ℕ, zero, suc, ◌+◌, Bool, true, false, not, ◌||◌, ◌&&◌, List, [], ◌∷◌, ◌++◌, Option, Some, is_some, if◌then◌else◌}
use Rattle.loft_orders.specs.declared.thread.Thread.{Thread}
use Rattle.loft_sense.specs.Machine.{Prog, Tree, Code}
use Rattle.loft_orders.specs.declared.order.To.{To}
use Rattle.loft_sense.specs.Around.{Around}
use Rattle.loft_sense.specs.Run.{Outcome, Held, Left, Ended, go}
use Rattle.loft_sense.specs.Tree.{tree}
use Rattle.loft_sense.specs.Code.{code}
use Rattle.loft_sense.specs.CanGo.{can_go}

-- a linked thread in an instant: whether it is suspended, how often it has run in this instant and how many steps it may still
-- make in it, and where it goes at the close, if it leaves
pub record Runner : Type 0 where
  pub thread : Thread
  pub suspended : Bool
  pub runs : ℕ
  pub left : ℕ
  pub leaving : Option To

-- the threads as a walk over them leaves them, what it leaves around them, and whether it ran anybody
pub record Walk : Type 0 where
  pub runners : List Runner
  pub around : Around
  pub ran : Bool

-- one run of a thread of the program
abbrev pub run_of : Prog → Thread → Around → ℕ → Outcome
run_of (Tree p) t around left = go (tree p) t around left
run_of (Code c) t around left = go (code c) t around left

-- a thread after one more run. One that ended isn't linked any more; one that leaves is, until the close.
abbrev pub runners_after : Runner → Outcome → List Runner
runners_after r (Held t around left) = record r { thread = t; runs = r.runs + 1; left = left } ∷ []
runners_after r (Left t to around left) = record r { thread = t; runs = r.runs + 1; left = left; leaving = Some to } ∷ []
runners_after r (Ended end around left) = []

abbrev pub around_after : Outcome → Around
around_after (Held t around left) = around
around_after (Left t to around left) = around
around_after (Ended end around left) = around

-- it hasn't left, and can go
abbrev pub is_ready : Runner → Around → Bool
is_ready r around = not (is_some r.leaving) && can_go r.thread.wait r.suspended around.board around.known

-- a walk, with what its first step leaves
abbrev pub walked : List Runner → Bool → Walk → Walk
walked front ran w = record { runners = front ++ w.runners; around = w.around; ran = ran || w.ran }

-- one pass: each thread that can go as it is reached runs
abbrev pub pass : Prog → List Runner → Around → Walk
pass x [] around = record { runners = []; around = around; ran = false }
pass x (r ∷ rs) around =
    let outcome = run_of x r.thread around r.left in
    if is_ready r around
    then walked (runners_after r outcome) true (pass x rs (around_after outcome))
    else walked (r ∷ []) false (pass x rs around)

-- passes until one runs nobody, and at most so many more than one
abbrev pub passes_within : ℕ → Prog → List Runner → Around → Walk
passes_within zero x rs around = pass x rs around
passes_within (suc n) x rs around =
    let w = pass x rs around in
    if w.ran then passes_within n x w.runners w.around else w

-- the steps that the threads may still make, and one more each
abbrev pub steps_left : List Runner → ℕ
steps_left [] = 0
steps_left (r ∷ rs) = r.left + 1 + steps_left rs

-- Passes until one runs nobody. Each that runs a thread takes one of its steps or ends it, so there are no more than this.
unfoldable pub passes : Prog → List Runner → Around → Walk
passes x rs around = passes_within (steps_left rs) x rs around
