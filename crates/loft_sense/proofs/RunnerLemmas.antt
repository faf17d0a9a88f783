-- What the passes keep of each thread.
use Rattle.std.proofs.Common.{◌≡◌, ℕ, ◌+◌, ◌≤◌, Bool, true, false, List, [], ◌∷◌, ◌++◌, reverse, map, refl, sym, ◌∙◌, ap, subst, arith, append_assoc}
use Rattle.std.specs.Prelude.{if◌then◌else◌, ◌||◌, All}
use Rattle.std.specs.List.{AllByRecursion}
use Rattle.std.proofs.lemmas.List.{reverse-append}
use Rattle.std.proofs.lemmas.List.Elements.{All-from_recursion, recursion_from_All}
use Rattle.loft_orders.specs.declared.thread.Frame.{Frame}
use Rattle.loft_orders.specs.declared.thread.Thread.{Thread}
use Rattle.loft_orders.specs.declared.thread.Wait.TheVariants.{New}
use Rattle.loft_orders.specs.declared.order.At.{At}
use Rattle.loft_orders.specs.declared.order.End.TheVariants.{Over}
use Rattle.loft_orders.specs.declared.order.Order.{Order}
use Rattle.loft_orders.specs.declared.note.Standing.{Standing}
use Rattle.loft_base.specs.declared.options.Limits.{Limits}
use Rattle.loft_sense.specs.Machine.{Prog, Tree, Code, Mach}
use Rattle.loft_sense.specs.Around.{Around, Beside}
use Rattle.loft_sense.specs.Run.{Active, Outcome, Held, Left, Ended, ends, no_step, go, here, beside, active_of}
use Rattle.loft_sense.specs.Tree.{tree}
use Rattle.loft_sense.specs.Code.{code}
use Rattle.loft_sense.specs.Passes.{Runner, Walk, is_ready, run_of, runners_after, around_after, walked, pass, passes_within, passes}
use Rattle.loft_sense.specs.Moments.{Moment, IsKeptByRuns}
use Rattle.loft_sense.specs.Apply.{apply}
use Rattle.loft_sense.specs.Instant.{runner_of, around_of, has_run}
use Rattle.loft_sense.specs.LawWords.{instant_walk}
use Rattle.loft_sense.specs.WaitCodes.{IsPending}
use Rattle.loft_sense.proofs.StepLemmas.{IsBelow, run_takes_step}
use Rattle.loft_sense.proofs.AroundLemmas.{OutcomeIs, run_is}
use Rattle.loft_sense.proofs.MomentLemmas.{kept_within, kept_by_passes}

-- ---- what each run keeps, all passes keep

both : (Q : Runner → Type 0) (front rest : List Runner) → AllByRecursion Q front → AllByRecursion Q rest → AllByRecursion Q (front ++ rest)
both Q [] rest p q = q
both Q (r ∷ rs) rest p q = (p.0, both Q rs rest p.1 q)

-- a run of a thread of the program keeps this of it
abbrev pub IsKept : Prog → (Runner → Type 0) → Type 0
IsKept x Q = (r : Runner) (around : Around) → Q r → AllByRecursion Q (runners_after r (run_of x r.thread around r.left))

-- of the threads in front, of one, and of the rest
parted : (Q : Runner → Type 0) (front : List Runner) (r : Runner) (rest : List Runner) → AllByRecursion Q (front ++ r ∷ rest) → AllByRecursion Q front × (Q r × AllByRecursion Q rest)
parted Q [] r rest p = (tt, p)
parted Q (f ∷ fs) r rest p = let q = parted Q fs r rest p.1 in ((p.0, q.0), q.1)

-- this holds of each thread
abbrev OfEach : (Runner → Type 0) → Moment → Type 0
OfEach Q m = AllByRecursion Q m.runners

each_kept : (x : Prog) (Q : Runner → Type 0) → IsKept x Q → IsKeptByRuns x (OfEach Q)
each_kept x Q h front r rest around ready p =
    let q = parted Q front r rest p in
    let after = runners_after r (run_of x r.thread around r.left) in
    both Q front (after ++ rest) q.0 (both Q after rest (h r around q.1.0) q.1.1)

pub within_keeps : (x : Prog) (Q : Runner → Type 0) → IsKept x Q → (n : ℕ) (rs : List Runner) → AllByRecursion Q rs → (around : Around) → AllByRecursion Q (passes_within n x rs around).runners
within_keeps x Q h n rs p around = kept_within x (OfEach Q) (each_kept x Q h) n rs around p

pub passes_keep : (x : Prog) (Q : Runner → Type 0) → IsKept x Q → (rs : List Runner) → AllByRecursion Q rs → (around : Around) → AllByRecursion Q (passes x rs around).runners
passes_keep x Q h rs p around = kept_by_passes x (OfEach Q) (each_kept x Q h) rs around p

begin_all : (Q : Runner → Type 0) (budget : ℕ) → ((s : Standing) → Q (runner_of budget s)) → (ss : List Standing) → AllByRecursion Q (map (runner_of budget) ss)
begin_all Q budget h [] = tt
begin_all Q budget h (s ∷ ss) = (h s, begin_all Q budget h ss)

-- what each thread has as the passes of an instant begin, it has after them
pub instant_keeps : (x : Prog) (Q : Runner → Type 0) → IsKept x Q → (limits : Limits) → ((s : Standing) → Q (runner_of limits.budget s)) → (m : Mach) (batch : List Order) → All Q (instant_walk x limits m batch).runners
instant_keeps x Q h limits begins m batch =
    let a = apply x m batch in
    All-from_recursion Q (instant_walk x limits m batch).runners (passes_keep x Q h (map (runner_of limits.budget) a.linked) (begin_all Q limits.budget begins a.linked) (around_of m a))

-- ---- runs and steps

-- each run took a step
abbrev RunsWithin : ℕ → Runner → Type 0
RunsWithin budget r = r.runs + r.left ≤ budget

within_after : (budget : ℕ) (r : Runner) (o : Outcome) → IsBelow o r.left → RunsWithin budget r → AllByRecursion (RunsWithin budget) (runners_after r o)
within_after budget r (Held t around left) below h = (omega arith, tt)
within_after budget r (Left t to around left) below h = (omega arith, tt)
within_after budget r (Ended end around left) below h = tt

runs_kept : (x : Prog) (budget : ℕ) → IsKept x (RunsWithin budget)
runs_kept x budget r around h = within_after budget r (run_of x r.thread around r.left) (run_takes_step x r.thread around r.left) h

pub run_within : (x : Prog) (budget : ℕ) (r : Runner) (around : Around) → RunsWithin budget r → All (RunsWithin budget) (runners_after r (run_of x r.thread around r.left))
run_within x budget r around h = All-from_recursion (RunsWithin budget) (runners_after r (run_of x r.thread around r.left)) (runs_kept x budget r around h)

pub runs_within : (x : Prog) (budget n : ℕ) (rs : List Runner) (around : Around) → All (RunsWithin budget) rs → All (RunsWithin budget) (passes_within n x rs around).runners
runs_within x budget n rs around h =
    All-from_recursion (RunsWithin budget) (passes_within n x rs around).runners (within_keeps x (RunsWithin budget) (runs_kept x budget) n rs (recursion_from_All (RunsWithin budget) rs h) around)

pub instant_runs : (x : Prog) (limits : Limits) (m : Mach) (batch : List Order) → All (RunsWithin limits.budget) (instant_walk x limits m batch).runners
instant_runs x limits m batch = instant_keeps x (RunsWithin limits.budget) (runs_kept x limits.budget) limits (λ s. omega arith) m batch

-- a thread that hasn't run has all its steps
abbrev IsWhole : ℕ → Runner → Type 0
IsWhole budget r = r.runs ≡ 0 → r.left ≡ budget

whole_after : (budget : ℕ) (r : Runner) (o : Outcome) → AllByRecursion (IsWhole budget) (runners_after r o)
whole_after budget r (Held t around left) = (λ e. absurd (omega (arith, e)), tt)
whole_after budget r (Left t to around left) = (λ e. absurd (omega (arith, e)), tt)
whole_after budget r (Ended end around left) = tt

pub instant_whole : (x : Prog) (limits : Limits) (m : Mach) (batch : List Order) → All (IsWhole limits.budget) (instant_walk x limits m batch).runners
instant_whole x limits m batch = instant_keeps x (IsWhole limits.budget) (λ r around h. whole_after limits.budget r _) limits (λ s e. refl) m batch

-- ---- a run without steps

over_at : {A : Type 0} (b : Beside) (r : Active A) (rs all : List (Active A)) → all ≡ r ∷ rs → no_step b all ≡ ends (Over (here r)) b 0
over_at b r rs all e = ap (no_step b) e

innermost : (outer : List Frame) (f : Frame) (frames : List Frame) → frames ≡ outer ++ f ∷ [] → reverse frames ≡ f ∷ reverse outer
innermost outer f frames e = ap reverse e ∙ reverse-append outer (f ∷ [])

-- a thread without steps ends at its innermost frame
pub over_without_steps : (x : Prog) (t : Thread) (around : Around) (outer : List Frame) (f : Frame) → t.frames ≡ outer ++ f ∷ []
    → run_of x t around 0 ≡ ends (Over (record { «module» = f.module; stop = f.stop })) (beside t around) 0
unfolding go
over_without_steps (Tree p) t around outer f e =
    over_at (beside t around) (active_of (tree p) f) (map (active_of (tree p)) (reverse outer)) _ (ap (map (active_of (tree p))) (innermost outer f t.frames e))
over_without_steps (Code c) t around outer f e =
    over_at (beside t around) (active_of (code c) f) (map (active_of (code c)) (reverse outer)) _ (ap (map (active_of (code c))) (innermost outer f t.frames e))

-- one that has run as often as the budget allows has none
pub last_run : (x : Prog) (budget : ℕ) (r : Runner) (around : Around) (outer : List Frame) (f : Frame) → r.runs + r.left ≤ budget → r.runs ≡ budget → r.thread.frames ≡ outer ++ f ∷ []
    → run_of x r.thread around r.left ≡ ends (Over (record { «module» = f.module; stop = f.stop })) (beside r.thread around) 0
last_run x budget r around outer f within all e =
    let none : r.left ≡ 0 = omega arith in
    ap (run_of x r.thread around) none ∙ over_without_steps x r.thread around outer f e

pub over_only_without_steps : (x : Prog) (t : Thread) (around : Around) (n : ℕ) (at : At) (after : Around) (left : ℕ) → run_of x t around n ≡ Ended (Over at) after left → left ≡ 0
over_only_without_steps x t around n at after left e = (subst (OutcomeIs around) e (run_is x t around n)).1 at refl

-- ---- waits that began in this instant

pub held_pending : (x : Prog) (t : Thread) (around : Around) (n : ℕ) (u : Thread) (after : Around) (left : ℕ) → run_of x t around n ≡ Held u after left → IsPending u.wait
held_pending x t around n u after left e = (subst (OutcomeIs around) e (run_is x t around n)).1

pub new_pending : (t : Thread) → t.wait ≡ New → IsPending t.wait
new_pending t e = subst IsPending (sym e) (record { unmarked = λ f. cc; instants = λ n g. absurd cc })

-- the wait of a thread that ran began in this instant
abbrev WaitsAnew : Runner → Type 0
WaitsAnew r = has_run r ≡ true → IsPending r.thread.wait

anew_after : (r : Runner) (a : Around) (o : Outcome) → OutcomeIs a o → AllByRecursion WaitsAnew (runners_after r o)
anew_after r a (Held t around left) p = (λ e. p.1, tt)
anew_after r a (Left t to around left) p = (λ e. new_pending t p.1, tt)
anew_after r a (Ended end around left) p = tt

pending_kept : (x : Prog) → IsKept x WaitsAnew
pending_kept x r around h = anew_after r around (run_of x r.thread around r.left) (run_is x r.thread around r.left)

pub pending_within : (x : Prog) (n : ℕ) (rs : List Runner) (around : Around) → All WaitsAnew rs → All WaitsAnew (passes_within n x rs around).runners
pending_within x n rs around h =
    All-from_recursion WaitsAnew (passes_within n x rs around).runners (within_keeps x WaitsAnew (pending_kept x) n rs (recursion_from_All WaitsAnew rs h) around)

pub instant_pending : (x : Prog) (limits : Limits) (m : Mach) (batch : List Order) → All WaitsAnew (instant_walk x limits m batch).runners
instant_pending x limits m batch = instant_keeps x WaitsAnew (pending_kept x) limits (λ s e. absurd cc) m batch

-- ---- the order of a pass

abbrev RanAtMost : ℕ → Runner → Type 0
RanAtMost n r = r.runs ≤ n

once_after : (n : ℕ) (r : Runner) (o : Outcome) → RanAtMost n r → AllByRecursion (RanAtMost (n + 1)) (runners_after r o)
once_after n r (Held t around left) h = (omega arith, tt)
once_after n r (Left t to around left) h = (omega arith, tt)
once_after n r (Ended end around left) h = tt

once_one : (x : Prog) (n : ℕ) (r : Runner) (rs : List Runner) (around : Around) (goes : Bool) (o : Outcome) → RanAtMost n r
    → ((a : Around) → AllByRecursion (RanAtMost (n + 1)) (pass x rs a).runners)
    → AllByRecursion (RanAtMost (n + 1)) (if goes then walked (runners_after r o) true (pass x rs (around_after o)) else walked (r ∷ []) false (pass x rs around)).runners
once_one x n r rs around true o p h = both (RanAtMost (n + 1)) (runners_after r o) _ (once_after n r o p) (h (around_after o))
once_one x n r rs around false o p h = (omega arith, h around)

once_each : (x : Prog) (n : ℕ) (rs : List Runner) → AllByRecursion (RanAtMost n) rs → (around : Around) → AllByRecursion (RanAtMost (n + 1)) (pass x rs around).runners
once_each x n [] p around = tt
once_each x n (r ∷ rs) p around = once_one x n r rs around (is_ready r around) (run_of x r.thread around r.left) p.0 (once_each x n rs p.1)

-- a pass runs a thread at most once
pub runs_once : (x : Prog) (n : ℕ) (rs : List Runner) (around : Around) → All (RanAtMost n) rs → All (RanAtMost (n + 1)) (pass x rs around).runners
runs_once x n rs around h = All-from_recursion (RanAtMost (n + 1)) (pass x rs around).runners (once_each x n rs (recursion_from_All (RanAtMost n) rs h) around)

any_of_three : (a b c : Bool) → (a || (b || c)) ≡ ((a || b) || c)
any_of_three true b c = refl
any_of_three false b c = refl

walked_twice : (f g : List Runner) (a b : Bool) (w : Walk) → walked f a (walked g b w) ≡ walked (f ++ g) (a || b) w
walked_twice f g a b w =
    ap (λ (rs : List Runner). record { runners = rs; around = w.around; ran = a || (b || w.ran) }) (sym (append_assoc f g w.runners))
    ∙ ap (λ (ran : Bool). record { runners = (f ++ g) ++ w.runners; around = w.around; ran = ran }) (any_of_three a b w.ran)

-- a pass over a list, and then over these threads with what it left around them
abbrev Then : Prog → List Runner → Walk → Walk
Then x ss w = walked w.runners w.ran (pass x ss w.around)

order_one : (x : Prog) (r : Runner) (rs ss : List Runner) (around : Around) (goes : Bool) (o : Outcome) → ((a : Around) → pass x (rs ++ ss) a ≡ Then x ss (pass x rs a))
    → (if goes then walked (runners_after r o) true (pass x (rs ++ ss) (around_after o)) else walked (r ∷ []) false (pass x (rs ++ ss) around))
    ≡ Then x ss (if goes then walked (runners_after r o) true (pass x rs (around_after o)) else walked (r ∷ []) false (pass x rs around))
order_one x r rs ss around true o h =
    let w = pass x rs (around_after o) in
    ap (walked (runners_after r o) true) (h (around_after o)) ∙ walked_twice (runners_after r o) w.runners true w.ran (pass x ss w.around)
order_one x r rs ss around false o h =
    let w = pass x rs around in
    ap (walked (r ∷ []) false) (h around) ∙ walked_twice (r ∷ []) w.runners false w.ran (pass x ss w.around)

-- a pass is one over the threads in front, and then over the rest
pub pass_in_order : (x : Prog) (rs ss : List Runner) (around : Around) → pass x (rs ++ ss) around ≡ Then x ss (pass x rs around)
pass_in_order x [] ss around = refl
pass_in_order x (r ∷ rs) ss around = order_one x r rs ss around (is_ready r around) (run_of x r.thread around r.left) (pass_in_order x rs ss)
