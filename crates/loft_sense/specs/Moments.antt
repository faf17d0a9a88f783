-- The moments between the runs of an instant (docs/SEMANTICS.md, "Passes").
use Rattle.std.specs.Prelude.{◌≡◌, ℕ, zero, suc, true, List, [], ◌∷◌, ◌++◌, if◌then◌else◌}
use Rattle.loft_sense.specs.Machine.{Prog}
use Rattle.loft_sense.specs.Around.{Around}
use Rattle.loft_sense.specs.Passes.{Runner, Walk, is_ready, run_of, runners_after, around_after, pass, steps_left}

-- the linked threads in their order, and what stands around them
pub record Moment : Type 0 where
  pub runners : List Runner
  pub around : Around

abbrev pub moment : List Runner → Around → Moment
moment rs around = record { runners = rs; around = around }

-- what a walk over the threads leaves
abbrev pub end_of : Walk → Moment
end_of w = moment w.runners w.around

-- a thread has run, between these threads before it and those after it
abbrev pub after_run : Prog → List Runner → Runner → List Runner → Around → Moment
after_run x front r rest around =
    let outcome = run_of x r.thread around r.left in
    moment (front ++ (runners_after r outcome ++ rest)) (around_after outcome)

-- the moment after each run of a pass that has gone over the threads in front, and goes over these yet
abbrev pub moments_on : Prog → List Runner → List Runner → Around → List Moment
moments_on x front [] around = []
moments_on x front (r ∷ rs) around =
    let outcome = run_of x r.thread around r.left in
    if is_ready r around
    then after_run x front r rs around ∷ moments_on x (front ++ runners_after r outcome) rs (around_after outcome)
    else moments_on x (front ++ r ∷ []) rs around

-- the moment after each run of a pass
abbrev pub moments_of_pass : Prog → List Runner → Around → List Moment
moments_of_pass x rs around = moments_on x [] rs around

-- the moment after each run of passes until one runs nobody, and at most so many more than one
abbrev pub moments_within : ℕ → Prog → List Runner → Around → List Moment
moments_within zero x rs around = moments_of_pass x rs around
moments_within (suc n) x rs around =
    let w = pass x rs around in
    moments_of_pass x rs around ++ (if w.ran then moments_within n x w.runners w.around else [])

-- the moment after each run of the passes of an instant
unfoldable pub moments : Prog → List Runner → Around → List Moment
moments x rs around = moments_within (steps_left rs) x rs around

-- one of the threads could go at m, and n is the moment after its run
pub record IsRun (x : Prog) (m n : Moment) : Type 0 where
  pub front : List Runner
  pub runner : Runner
  pub rest : List Runner
  pub linked : m.runners ≡ front ++ runner ∷ rest
  pub ready : is_ready runner m.around ≡ true
  pub after : n ≡ after_run x front runner rest m.around

-- from m on each of these is one run after the one before it
abbrev pub RunByRun : Prog → Moment → List Moment → Type 0
RunByRun x m [] = Unit {0}
RunByRun x m (n ∷ ns) = IsRun x m n × RunByRun x n ns

-- the last of these, or m where there is none
abbrev pub last_or : Moment → List Moment → Moment
last_or m [] = m
last_or m (n ∷ ns) = last_or n ns

-- each run of a thread that can go keeps this
abbrev pub IsKeptByRuns : Prog → (Moment → Type 0) → Type 0
IsKeptByRuns x P = (front : List Runner) (r : Runner) (rest : List Runner) (around : Around) → is_ready r around ≡ true
    → P (moment (front ++ r ∷ rest) around) → P (after_run x front r rest around)
