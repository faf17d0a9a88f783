-- The passes of an instant end.
use Rattle.std.proofs.Common.{◌≡◌, ℕ, zero, suc, ◌+◌, ◌<◌, ◌≤◌, Bool, true, false, List, [], ◌∷◌, ◌++◌, refl, sym, ◌∙◌, ap, subst, arith}
use Rattle.std.specs.Prelude.{if◌then◌else◌, All}
use Rattle.std.specs.List.{AllByRecursion}
use Rattle.std.proofs.lemmas.List.Elements.{All-from_recursion}
use Rattle.loft_sense.specs.Machine.{Prog}
use Rattle.loft_sense.specs.Around.{Around}
use Rattle.loft_sense.specs.Run.{Outcome, Held, Left, Ended}
use Rattle.loft_sense.specs.Passes.{Runner, Walk, is_ready, run_of, runners_after, around_after, walked, pass, passes_within, steps_left, passes}
use Rattle.loft_sense.proofs.StepLemmas.{IsBelow, run_takes_step}

fewer_after : (r : Runner) (o : Outcome) (n : ℕ) (rest : List Runner) → IsBelow o n → steps_left (runners_after r o ++ rest) < n + 1 + steps_left rest
fewer_after r (Held t around left) n rest h = omega arith
fewer_after r (Left t to around left) n rest h = omega arith
fewer_after r (Ended end around left) n rest h = omega arith

-- a pass leaves fewer steps where it ran somebody, and no more in any case
pub record Lessens (w : Walk) (n : ℕ) : Type 0 where
  pub fewer : w.ran ≡ true → steps_left w.runners < n
  pub no_more : steps_left w.runners ≤ n

lessens_one : (x : Prog) (r : Runner) (rs : List Runner) (around : Around) (goes : Bool) (o : Outcome) → IsBelow o r.left
    → ((a : Around) → Lessens (pass x rs a) (steps_left rs))
    → Lessens (if goes then walked (runners_after r o) true (pass x rs (around_after o)) else walked (r ∷ []) false (pass x rs around)) (r.left + 1 + steps_left rs)
lessens_one x r rs around true o below h =
    let e = fewer_after r o r.left (pass x rs (around_after o)).runners below in
    let f = (h (around_after o)).no_more in
    record { fewer = λ _. omega (arith, e, f); no_more = omega (arith, e, f) }
lessens_one x r rs around false o below h =
    let f = (h around).no_more in
    record { fewer = λ ran. let e = (h around).fewer ran in omega (arith, e); no_more = omega (arith, f) }

pub pass_lessens : (x : Prog) (rs : List Runner) (around : Around) → Lessens (pass x rs around) (steps_left rs)
pass_lessens x [] around = record { fewer = λ ran. cc; no_more = omega arith }
pass_lessens x (r ∷ rs) around =
    lessens_one x r rs around (is_ready r around) (run_of x r.thread around r.left)
    (run_takes_step x r.thread around r.left) (pass_lessens x rs)

no_steps : (rs : List Runner) → steps_left rs ≤ 0 → rs ≡ []
no_steps [] h = refl
no_steps (r ∷ rs) h = absurd (omega arith)

within_none : (n : ℕ) (x : Prog) (around : Around) → passes_within n x [] around ≡ pass x [] around
within_none zero x around = refl
within_none (suc n) x around = refl

within_one : (n m : ℕ) (x : Prog) (w : Walk) (ran : Bool) → (ran ≡ true → passes_within n x w.runners w.around ≡ passes_within m x w.runners w.around)
    → (if ran then passes_within n x w.runners w.around else w) ≡ (if ran then passes_within m x w.runners w.around else w)
within_one n m x w true h = h refl
within_one n m x w false h = refl

-- more passes than there are steps left make no difference
within_enough : (n m : ℕ) (x : Prog) (rs : List Runner) (around : Around) → steps_left rs ≤ n → steps_left rs ≤ m → passes_within n x rs around ≡ passes_within m x rs around
within_enough zero m x rs around hn hm = let e = no_steps rs hn in subst (λ (q : List Runner). passes_within zero x q around ≡ passes_within m x q around) (sym e) (sym (within_none m x around))
within_enough (suc n) zero x rs around hn hm = let e = no_steps rs hm in subst (λ (q : List Runner). passes_within (suc n) x q around ≡ passes_within zero x q around) (sym e) (within_none (suc n) x around)
within_enough (suc n) (suc m) x rs around hn hm =
    within_one n m x (pass x rs around) (pass x rs around).ran (λ ran.
    let e = (pass_lessens x rs around).fewer ran in
    within_enough n m x (pass x rs around).runners (pass x rs around).around (omega (arith, e)) (omega (arith, e)))

within_goes : (n : ℕ) (x : Prog) (rs : List Runner) (around : Around) → (pass x rs around).ran ≡ true → passes_within (suc n) x rs around ≡ passes_within n x (pass x rs around).runners (pass x rs around).around
within_goes n x rs around ran = ap (λ (b : Bool). if b then passes_within n x (pass x rs around).runners (pass x rs around).around else pass x rs around) ran

within_stops : (n : ℕ) (x : Prog) (rs : List Runner) (around : Around) → (pass x rs around).ran ≡ false → passes_within n x rs around ≡ pass x rs around
within_stops zero x rs around ran = refl
within_stops (suc n) x rs around ran = ap (λ (b : Bool). if b then passes_within n x (pass x rs around).runners (pass x rs around).around else pass x rs around) ran

-- after a pass that ran somebody come the passes that are left
pub passes_goes : (x : Prog) (rs : List Runner) (around : Around) → (pass x rs around).ran ≡ true → passes x rs around ≡ passes x (pass x rs around).runners (pass x rs around).around
unfolding passes
passes_goes x rs around ran =
    let e = (pass_lessens x rs around).fewer ran in
    within_enough (steps_left rs) (suc (steps_left rs)) x rs around (omega arith) (omega arith)
    ∙ (within_goes (steps_left rs) x rs around ran
    ∙ within_enough (steps_left rs) (steps_left (pass x rs around).runners) x (pass x rs around).runners (pass x rs around).around (omega (arith, e)) (omega arith))

-- a pass that runs nobody is the last
pub passes_stops : (x : Prog) (rs : List Runner) (around : Around) → (pass x rs around).ran ≡ false → passes x rs around ≡ pass x rs around
unfolding passes
passes_stops x rs around ran = within_stops (steps_left rs) x rs around ran

-- the walk left these threads and this around them as they were
record Unmoved (w : Walk) (rs : List Runner) (around : Around) : Type 0 where
  pub same_runners : w.runners ≡ rs
  pub same_around : w.around ≡ around

unmoved_one : (x : Prog) (r : Runner) (rs : List Runner) (around : Around) (goes : Bool) (o : Outcome)
    → ((pass x rs around).ran ≡ false → Unmoved (pass x rs around) rs around)
    → (if goes then walked (runners_after r o) true (pass x rs (around_after o)) else walked (r ∷ []) false (pass x rs around)).ran ≡ false
    → Unmoved (if goes then walked (runners_after r o) true (pass x rs (around_after o)) else walked (r ∷ []) false (pass x rs around)) (r ∷ rs) around
unmoved_one x r rs around true o h ran = absurd cc
unmoved_one x r rs around false o h ran = record { same_runners = ap (λ (l : List Runner). r ∷ l) (h ran).same_runners; same_around = (h ran).same_around }

-- a pass that runs nobody leaves all as it was
pass_unmoved : (x : Prog) (rs : List Runner) (around : Around) → (pass x rs around).ran ≡ false → Unmoved (pass x rs around) rs around
pass_unmoved x [] around ran = record { same_runners = refl; same_around = refl }
pass_unmoved x (r ∷ rs) around ran =
    unmoved_one x r rs around (is_ready r around) (run_of x r.thread around r.left) (pass_unmoved x rs around) ran

-- one more pass runs nobody
abbrev HasEnded : Prog → Walk → Type 0
HasEnded x w = (pass x w.runners w.around).ran ≡ false

ended_pass : (x : Prog) (rs : List Runner) (around : Around) → (pass x rs around).ran ≡ false → HasEnded x (pass x rs around)
ended_pass x rs around ran =
    let u = pass_unmoved x rs around ran in
    ap (λ (l : List Runner). (pass x l (pass x rs around).around).ran) u.same_runners ∙ (ap (λ (a : Around). (pass x rs a).ran) u.same_around ∙ ran)

ended_chosen : (x : Prog) (ran : Bool) (v w : Walk) → (ran ≡ true → HasEnded x v) → (ran ≡ false → HasEnded x w) → HasEnded x (if ran then v else w)
ended_chosen x true v w p q = p refl
ended_chosen x false v w p q = q refl

ended_within : (n : ℕ) (x : Prog) (rs : List Runner) (around : Around) → steps_left rs ≤ n → HasEnded x (passes_within n x rs around)
ended_within zero x rs around h = let e = no_steps rs h in subst (λ (q : List Runner). HasEnded x (passes_within zero x q around)) (sym e) refl
ended_within (suc n) x rs around h =
    ended_chosen x (pass x rs around).ran (passes_within n x (pass x rs around).runners (pass x rs around).around) (pass x rs around)
    (λ ran. let e = (pass_lessens x rs around).fewer ran in ended_within n x (pass x rs around).runners (pass x rs around).around (omega (arith, e)))
    (ended_pass x rs around)

-- after the passes of an instant one more runs nobody
pub passes_end : (x : Prog) (rs : List Runner) (around : Around) → (pass x (passes x rs around).runners (passes x rs around).around).ran ≡ false
unfolding passes
passes_end x rs around = ended_within (steps_left rs) x rs around (omega arith)

-- it isn't ready with this around it
abbrev Stays : Around → Runner → Type 0
Stays around r = is_ready r around ≡ false

stays_one : (x : Prog) (r : Runner) (rs : List Runner) (around : Around) (goes : Bool) (o : Outcome)
    → ((pass x rs around).ran ≡ false → AllByRecursion (Stays around) rs)
    → (if goes then walked (runners_after r o) true (pass x rs (around_after o)) else walked (r ∷ []) false (pass x rs around)).ran ≡ false
    → (goes ≡ false) × AllByRecursion (Stays around) rs
stays_one x r rs around true o h ran = absurd cc
stays_one x r rs around false o h ran = (refl, h ran)

-- where a pass runs nobody, nobody is ready
all_stay : (x : Prog) (rs : List Runner) (around : Around) → (pass x rs around).ran ≡ false → AllByRecursion (Stays around) rs
all_stay x [] around ran = tt
all_stay x (r ∷ rs) around ran =
    stays_one x r rs around (is_ready r around) (run_of x r.thread around r.left) (all_stay x rs around) ran

-- after the passes of an instant nobody is ready
pub nobody_is_ready : (x : Prog) (rs : List Runner) (around : Around) → All (λ r. is_ready r (passes x rs around).around ≡ false) (passes x rs around).runners
nobody_is_ready x rs around = All-from_recursion (Stays (passes x rs around).around) (passes x rs around).runners (all_stay x (passes x rs around).runners (passes x rs around).around (passes_end x rs around))
