-- Operations as they are written before their targets are known (docs/CODE.md, "The compiler's code").
use Rattle.std.specs.Prelude.{ℕ, zero, suc, List, [], ◌∷◌}
use Rattle.loft_tree.specs.declared.heads.Heads.{Heads}
use Rattle.loft_tree.specs.declared.heads.Place.{Place}
use Rattle.loft_tree.specs.Resolved.{Step, Do, Hold, Call, Choose, Loop, Times}
use Rattle.loft_code.specs.Operations.{Operation, Line}
use Rattle.loft_code.specs.Operations as op
use Rattle.loft_sense.specs.Stands.{place_after, end_of}
use Rattle.loft_translation.specs.Compiled.{line}

-- the operation with which a statement begins; the target of a `branch` is 0 so far
abbrev pub first_operation : Step → Operation
first_operation (Do action) = op.Do action
first_operation (Hold k pause) = op.Hold k pause
first_operation (Call k m arguments) = op.Call k m arguments
first_operation (Choose test first second) = op.Branch 0 test
first_operation (Loop test body) = op.Enter
first_operation (Times count body) = op.Count count

-- the operation, with this target where it has one
abbrev pub with_target : ℕ → Operation → Operation
with_target n (op.Do action) = op.Do action
with_target n (op.Hold k pause) = op.Hold k pause
with_target n (op.Call k m arguments) = op.Call k m arguments
with_target n (op.Branch t test) = op.Branch n test
with_target n op.Enter = op.Enter
with_target n (op.Count count) = op.Count count
with_target n (op.Turn t) = op.Turn n
with_target n (op.Jump t) = op.Jump n
with_target n op.End = op.End

abbrev pub line_with_target : ℕ → Line → Line
line_with_target n l = line l.place l.depth (with_target n l.operation)

-- the lines, where the one with the number k has the target n
abbrev pub lines_with_target : List Line → (k n : ℕ) → List Line
lines_with_target [] k n = []
lines_with_target (l ∷ ls) zero n = line_with_target n l ∷ ls
lines_with_target (l ∷ ls) (suc k) n = l ∷ lines_with_target ls k n

-- where a thread is linked after an operation before which it was linked here; of one that is the first of several
-- operations, after that one
abbrev pub place_past : Heads → Operation → Place → Place
place_past h (op.Hold k pause) here = place_after pause here
place_past h (op.Call k m arguments) here = end_of h m
place_past h (op.Do action) here = here
place_past h (op.Branch t test) here = here
place_past h op.Enter here = here
place_past h (op.Count count) here = here
place_past h (op.Turn t) here = here
place_past h (op.Jump t) here = here
place_past h op.End here = here
