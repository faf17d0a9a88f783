-- The moments of the passes of an instant: one run after the other, up to what the passes leave.
use Rattle.std.proofs.Common.{◌≡◌, ℕ, zero, suc, Bool, true, false, List, [], ◌∷◌, ◌++◌, refl, sym, ◌∙◌, ap, subst, append_assoc}
use Rattle.std.specs.Prelude.{if◌then◌else◌, All}
use Rattle.std.specs.List.{AllByRecursion}
use Rattle.std.proofs.lemmas.List.Elements.{All-from_recursion}
use Rattle.loft_sense.specs.Machine.{Prog}
use Rattle.loft_sense.specs.Around.{Around}
use Rattle.loft_sense.specs.Passes.{Runner, Walk, is_ready, run_of, runners_after, around_after, walked, pass, passes_within, steps_left, passes}
use Rattle.loft_sense.specs.Moments.{Moment, moment, end_of, after_run, moments_on, moments_of_pass, moments_within, moments, IsRun, RunByRun, last_or, IsKeptByRuns}

-- ---- one pass

-- the moments from one thread on, where it goes or doesn't
abbrev From : Prog → List Runner → Runner → List Runner → Around → Bool → List Moment
From x front r rs around goes =
    let o = run_of x r.thread around r.left in
    if goes
    then after_run x front r rs around ∷ moments_on x (front ++ runners_after r o) rs (around_after o)
    else moments_on x (front ++ r ∷ []) rs around

one_run_by_run : (x : Prog) (front : List Runner) (r : Runner) (rs : List Runner) (around : Around) (goes : Bool) → is_ready r around ≡ goes
    → ((f : List Runner) (a : Around) → RunByRun x (moment (f ++ rs) a) (moments_on x f rs a))
    → RunByRun x (moment (front ++ r ∷ rs) around) (From x front r rs around goes)
one_run_by_run x front r rs around true ready on =
    let o = run_of x r.thread around r.left in (
      record { front = front; runner = r; rest = rs; linked = refl; ready = ready; after = refl },
      subst (λ (l : List Runner). RunByRun x (moment l (around_after o)) (moments_on x (front ++ runners_after r o) rs (around_after o)))
          (append_assoc front (runners_after r o) rs) (on (front ++ runners_after r o) (around_after o)),
    )
one_run_by_run x front r rs around false ready on =
    subst (λ (l : List Runner). RunByRun x (moment l around) (moments_on x (front ++ r ∷ []) rs around)) (append_assoc front (r ∷ []) rs) (on (front ++ r ∷ []) around)

-- the moments of a pass are one run after the other
pass_run_by_run : (x : Prog) (front rs : List Runner) (around : Around) → RunByRun x (moment (front ++ rs) around) (moments_on x front rs around)
pass_run_by_run x front [] around = tt
pass_run_by_run x front (r ∷ rs) around = one_run_by_run x front r rs around (is_ready r around) refl (λ f a. pass_run_by_run x f rs a)

one_last : (x : Prog) (front : List Runner) (r : Runner) (rs : List Runner) (around : Around) (goes : Bool)
    → ((f : List Runner) (a : Around) → last_or (moment (f ++ rs) a) (moments_on x f rs a) ≡ moment (f ++ (pass x rs a).runners) (pass x rs a).around)
    → let o = run_of x r.thread around r.left in
    let w = if goes then walked (runners_after r o) true (pass x rs (around_after o)) else walked (r ∷ []) false (pass x rs around) in
    last_or (moment (front ++ r ∷ rs) around) (From x front r rs around goes) ≡ moment (front ++ w.runners) w.around
one_last x front r rs around true on =
    let o = run_of x r.thread around r.left in
    let a = around_after o in
    let behind = front ++ runners_after r o in
    ap (λ (l : List Runner). last_or (moment l a) (moments_on x behind rs a)) (sym (append_assoc front (runners_after r o) rs))
    ∙ (on behind a ∙ ap (λ (l : List Runner). moment l (pass x rs a).around) (append_assoc front (runners_after r o) (pass x rs a).runners))
one_last x front r rs around false on =
    ap (λ (l : List Runner). last_or (moment l around) (moments_on x (front ++ r ∷ []) rs around)) (sym (append_assoc front (r ∷ []) rs))
    ∙ (on (front ++ r ∷ []) around ∙ ap (λ (l : List Runner). moment l (pass x rs around).around) (append_assoc front (r ∷ []) (pass x rs around).runners))

-- the last of them is what the pass leaves
pass_last : (x : Prog) (front rs : List Runner) (around : Around) → last_or (moment (front ++ rs) around) (moments_on x front rs around) ≡ moment (front ++ (pass x rs around).runners) (pass x rs around).around
pass_last x front [] around = refl
pass_last x front (r ∷ rs) around = one_last x front r rs around (is_ready r around) (λ f a. pass_last x f rs a)

pub pass_moments : (x : Prog) (rs : List Runner) (around : Around) → RunByRun x (moment rs around) (moments_of_pass x rs around)
pass_moments x rs around = pass_run_by_run x [] rs around

pub pass_ends : (x : Prog) (rs : List Runner) (around : Around) → last_or (moment rs around) (moments_of_pass x rs around) ≡ end_of (pass x rs around)
pass_ends x rs around = pass_last x [] rs around

-- ---- passes

runs_append : (x : Prog) (m : Moment) (ms ns : List Moment) → RunByRun x m ms → RunByRun x (last_or m ms) ns → RunByRun x m (ms ++ ns)
runs_append x m [] ns p q = q
runs_append x m (n ∷ ms) ns p q = (p.0, runs_append x n ms ns p.1 q)

last_append : (m : Moment) (ms ns : List Moment) → last_or m (ms ++ ns) ≡ last_or (last_or m ms) ns
last_append m [] ns = refl
last_append m (n ∷ ms) ns = last_append n ms ns

-- what a pass leaves, and the passes after it, where it ran somebody
abbrev Onward : ℕ → Prog → Walk → Bool → List Moment
Onward n x w ran = if ran then moments_within n x w.runners w.around else []

onward_runs : (n : ℕ) (x : Prog) (w : Walk) (ran : Bool) → RunByRun x (end_of w) (moments_within n x w.runners w.around) → RunByRun x (end_of w) (Onward n x w ran)
onward_runs n x w true p = p
onward_runs n x w false p = tt

onward_last : (n : ℕ) (x : Prog) (w : Walk) (ran : Bool) → last_or (end_of w) (moments_within n x w.runners w.around) ≡ end_of (passes_within n x w.runners w.around)
    → last_or (end_of w) (Onward n x w ran) ≡ end_of (if ran then passes_within n x w.runners w.around else w)
onward_last n x w true p = p
onward_last n x w false p = refl

pub within_moments : (n : ℕ) (x : Prog) (rs : List Runner) (around : Around) → RunByRun x (moment rs around) (moments_within n x rs around)
within_moments zero x rs around = pass_moments x rs around
within_moments (suc n) x rs around =
    let w = pass x rs around in
    runs_append x (moment rs around) (moments_of_pass x rs around) (Onward n x w w.ran) (pass_moments x rs around)
    (subst (λ (m : Moment). RunByRun x m (Onward n x w w.ran)) (sym (pass_ends x rs around)) (onward_runs n x w w.ran (within_moments n x w.runners w.around)))

pub within_ends : (n : ℕ) (x : Prog) (rs : List Runner) (around : Around) → last_or (moment rs around) (moments_within n x rs around) ≡ end_of (passes_within n x rs around)
within_ends zero x rs around = pass_ends x rs around
within_ends (suc n) x rs around =
    let w = pass x rs around in
    last_append (moment rs around) (moments_of_pass x rs around) (Onward n x w w.ran)
    ∙ (ap (λ (m : Moment). last_or m (Onward n x w w.ran)) (pass_ends x rs around) ∙ onward_last n x w w.ran (within_ends n x w.runners w.around))

-- the moments of an instant are one run after the other
pub moments_run_by_run : (x : Prog) (rs : List Runner) (around : Around) → RunByRun x (moment rs around) (moments x rs around)
unfolding moments
moments_run_by_run x rs around = within_moments (steps_left rs) x rs around

-- the last of them is what the passes leave
pub moments_end : (x : Prog) (rs : List Runner) (around : Around) → last_or (moment rs around) (moments x rs around) ≡ end_of (passes x rs around)
unfolding moments passes
moments_end x rs around = within_ends (steps_left rs) x rs around

-- ---- what each run keeps

module _ (x : Prog) (P : Moment → Type 0) (kept : IsKeptByRuns x P) where
  one_keeps : (m n : Moment) → IsRun x m n → P m → P n
  one_keeps m n run p = subst P (sym run.after) (kept run.front run.runner run.rest m.around run.ready (subst (λ (l : List Runner). P (moment l m.around)) run.linked p))

  -- what holds at first holds after each run
  pub runs_keep : (m : Moment) (ms : List Moment) → RunByRun x m ms → P m → AllByRecursion P ms
  runs_keep m [] runs p = tt
  runs_keep m (n ∷ ns) runs p = let q = one_keeps m n runs.0 p in (q, runs_keep n ns runs.1 q)

  -- and after the last
  pub last_keeps : (m : Moment) (ms : List Moment) → RunByRun x m ms → P m → P (last_or m ms)
  last_keeps m [] runs p = p
  last_keeps m (n ∷ ns) runs p = last_keeps n ns runs.1 (one_keeps m n runs.0 p)

  pub kept_by_pass : (rs : List Runner) (around : Around) → P (moment rs around) → P (end_of (pass x rs around))
  kept_by_pass rs around p = subst P (pass_ends x rs around) (last_keeps (moment rs around) (moments_of_pass x rs around) (pass_moments x rs around) p)

  pub kept_within : (n : ℕ) (rs : List Runner) (around : Around) → P (moment rs around) → P (end_of (passes_within n x rs around))
  kept_within n rs around p = subst P (within_ends n x rs around) (last_keeps (moment rs around) (moments_within n x rs around) (within_moments n x rs around) p)

  pub kept_by_passes : (rs : List Runner) (around : Around) → P (moment rs around) → P (end_of (passes x rs around))
  kept_by_passes rs around p = subst P (moments_end x rs around) (last_keeps (moment rs around) (moments x rs around) (moments_run_by_run x rs around) p)

  -- as the law says it
  pub throughout_pass : (rs : List Runner) (around : Around) → P (moment rs around) → All P (moments_of_pass x rs around) × P (end_of (pass x rs around))
  throughout_pass rs around p =
      let ms = moments_of_pass x rs around in
      (All-from_recursion P ms (runs_keep (moment rs around) ms (pass_moments x rs around) p), kept_by_pass rs around p)

  pub throughout_passes : (rs : List Runner) (around : Around) → P (moment rs around) → All P (moments x rs around) × P (end_of (passes x rs around))
  throughout_passes rs around p =
      let ms = moments x rs around in
      (All-from_recursion P ms (runs_keep (moment rs around) ms (moments_run_by_run x rs around) p), kept_by_passes rs around p)
