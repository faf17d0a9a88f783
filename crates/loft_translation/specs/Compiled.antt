-- The code of a source tree, bodies placed one after the other (docs/CODE.md, "The compiler's code").
use Rattle.std.specs.Prelude.{ℕ, ◌+◌, List, [], ◌∷◌, ◌++◌, length}
use Rattle.loft_base.specs.declared.ids.ModuleId.{ModuleId}
use Rattle.loft_tree.specs.declared.heads.Place.{Place}
use Rattle.loft_tree.specs.declared.heads.Heads.{Heads}
use Rattle.loft_tree.specs.Resolved.{Exp, Step, Do, Hold, Call, Choose, Loop, Times, Body, Empty, Then, Resolved}
use Rattle.loft_code.specs.Operations.{Operation, Line, Automata}
use Rattle.loft_code.specs.Operations as op
use Rattle.loft_sense.specs.Stands.{begin_of, leads_step, leads}

-- an operation where the thread is linked here and so many counts are active
abbrev pub line : Place → ℕ → Operation → Line
line here depth operation = record { place = here; depth = depth; operation = operation }

-- ---- statements with bodies, where p is the number of the first operation, X and Y are the code of the bodies, and a
-- thread is linked here before and there after X

-- `branch` past X, X
abbrev pub if_lines : (p depth : ℕ) (here : Place) → Exp → List Line → List Line
if_lines p depth here test x = line here depth (op.Branch (p + 1 + length x) test) ∷ x

-- `branch` to Y, X, `jump` past Y, Y
abbrev pub else_lines : (p depth : ℕ) (here there : Place) → Exp → List Line → List Line → List Line
else_lines p depth here there test x y =
    line here depth (op.Branch (p + 1 + length x + 1) test) ∷ (x ++ line there depth (op.Jump (p + 1 + length x + 1 + length y)) ∷ y)

-- `branch` past the loop, X, `jump` to that `branch`: where p is the number of the `branch`
abbrev pub again_lines : (p depth : ℕ) (here there : Place) → Exp → List Line → List Line
again_lines p depth here there test x =
    line here depth (op.Branch (p + 1 + length x + 1) test) ∷ (x ++ line there depth (op.Jump p) ∷ [])

-- `turn` past the loop, X, `jump` to that `turn`: where p is the number of the `turn`
abbrev pub turn_lines : (p depth : ℕ) (here there : Place) → List Line → List Line
turn_lines p depth here there x =
    line here depth (op.Turn (p + 1 + length x + 1)) ∷ (x ++ line there depth (op.Jump p) ∷ [])

-- ---- statements and bodies, from operation p on, inside so many `repeat`s, where a thread is linked here before them

module _ (h : Heads) where
  abbrev mutual
    pub step_lines : Step → (p depth : ℕ) → Place → List Line
    step_lines (Do action) p depth here = line here depth (op.Do action) ∷ []
    step_lines (Hold k pause) p depth here = line here depth (op.Hold k pause) ∷ []
    step_lines (Call k m arguments) p depth here = line here depth (op.Call k m arguments) ∷ []
    step_lines (Choose test first Empty) p depth here =
        if_lines p depth here test (body_lines first (p + 1) depth here)
    step_lines (Choose test first (Then s rest)) p depth here =
        let x = body_lines first (p + 1) depth here in
        else_lines p depth here (leads h first here) test x (body_lines (Then s rest) (p + 1 + length x + 1) depth here)
    -- `enter`, and the loop
    step_lines (Loop test body) p depth here =
        line here depth op.Enter ∷ again_lines (p + 1) depth here (leads h body here) test (body_lines body (p + 1 + 1) depth here)
    -- `count`, and the loop
    step_lines (Times count body) p depth here =
        line here depth (op.Count count) ∷ turn_lines (p + 1) (depth + 1) here (leads h body here) (body_lines body (p + 1 + 1) (depth + 1) here)

    pub body_lines : Body → (p depth : ℕ) → Place → List Line
    body_lines Empty p depth here = []
    body_lines (Then s rest) p depth here =
        let first = step_lines s p depth here in
        first ++ body_lines rest (p + length first) depth (leads_step h s here)

  -- a module's body where it begins, and `end`
  abbrev pub module_lines : ModuleId → Body → List Line
  module_lines m body = body_lines body 0 0 (begin_of h m) ++ line (leads h body (begin_of h m)) 0 op.End ∷ []

  -- modules, where the first of these has number k
  abbrev pub modules_from : ℕ → List Body → List (List Line)
  modules_from k [] = []
  modules_from k (b ∷ bs) = module_lines (record { 0 = k }) b ∷ modules_from (k + 1) bs

abbrev pub compiled : Resolved → Automata
compiled p = record { heads = p.heads; modules = modules_from p.heads 0 p.bodies }
