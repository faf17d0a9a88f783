-- Passes one after the other.
use Rattle.std.proofs.Common.{◌≡◌, ℕ, suc, ◌<◌, arith, Bool, true, false, List, refl, sym, ap, subst, ◌∙◌}
use Rattle.std.specs.Prelude.{if◌then◌else◌}
use Rattle.loft_sense.specs.Machine.{Prog}
use Rattle.loft_sense.specs.Around.{Around}
use Rattle.loft_sense.specs.Passes.{Runner, Walk, pass, passes, steps_left}
use Rattle.loft_sense.proofs.PassLemmas.{passes_goes, passes_stops, pass_lessens}

-- the passes after one that left this
abbrev pub passes_after : Prog → Walk → Walk
passes_after x w = if w.ran then passes x w.runners w.around else w

after_first : (x : Prog) (rs : List Runner) (around : Around) (ran : Bool) → (pass x rs around).ran ≡ ran → (if ran then passes x (pass x rs around).runners (pass x rs around).around else pass x rs around) ≡ passes x rs around
after_first x rs around true ran = sym (passes_goes x rs around ran)
after_first x rs around false ran = sym (passes_stops x rs around ran)

-- a first pass, and the passes after it
first_pass : (x : Prog) (rs : List Runner) (around : Around) (w : Walk) → w ≡ pass x rs around → passes_after x w ≡ passes x rs around
first_pass x rs around w is = ap (passes_after x) is ∙ after_first x rs around (pass x rs around).ran refl

-- one more pass
pub next_pass : (x : Prog) (w v : Walk) → w.ran ≡ true → v ≡ pass x w.runners w.around → passes_after x v ≡ passes_after x w
next_pass x w v ran is = first_pass x w.runners w.around v is ∙ ap (λ (b : Bool). if b then passes x w.runners w.around else w) (sym ran)

-- how many passes may come after one that left this: none, or as many as there are steps left and one more
abbrev pub passes_left : Walk → ℕ
passes_left w = if w.ran then suc (steps_left w.runners) else 0

fewer_after : (x : Prog) (rs : List Runner) (around : Around) (ran : Bool) → (pass x rs around).ran ≡ ran → (if ran then suc (steps_left (pass x rs around).runners) else 0) < suc (steps_left rs)
fewer_after x rs around true ran = let fewer = (pass_lessens x rs around).fewer ran in omega (arith, fewer)
fewer_after x rs around false ran = omega arith

pub fewer_passes : (x : Prog) (w v : Walk) → w.ran ≡ true → v ≡ pass x w.runners w.around → passes_left v < passes_left w
fewer_passes x w v ran is =
    subst (λ (n : ℕ). passes_left v < n) (ap (λ (b : Bool). if b then suc (steps_left w.runners) else 0) (sym ran))
    (subst (λ (u : Walk). passes_left u < suc (steps_left w.runners)) (sym is) (fewer_after x w.runners w.around (pass x w.runners w.around).ran refl))
