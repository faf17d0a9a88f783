-- The work that is left in a module, as it is kept in memory.
use Rattle.std.specs.Prelude.{◌≡◌, ℕ, zero, suc, ℤ, List, [], ◌∷◌, Option, Some, None, unwrap_or}
use Rattle.loft_tree.specs.declared.named.NamedStmt.{NamedStmt}
use Rattle.loft_tree.specs.NamedView.{term_of, statement_of, statements_of}
use Rattle.loft_tree.specs.Resolved.{Pause, Step, Body, exp_of, step_of, body_of}
use Rattle.loft_sense.specs.Tree.{Work, Begin, Again, Turns, body_then, after_body, stop_at, pause_of_step}
use Rattle.std.specs.Borrow.{Bor}
use Rattle.loft_walk.specs.declared.work.Piece.{Piece}
use Rattle.loft_walk.specs.declared.work.Piece.TheVariants as piece
use Rattle.loft_walk.specs.declared.work.Task.{Task}
use Rattle.loft_walk.specs.declared.work.Task.TheVariants as task

-- statements and a statement in memory, without names and offsets
abbrev pub body_from : List NamedStmt → Body
body_from ss = body_of (statements_of ss)

abbrev pub step_from : NamedStmt → Step
step_from s = step_of (statement_of s)

-- a piece, and then the rest
abbrev pub piece_before : Piece → List Work → List Work
piece_before (piece.Rest body) w = body_then (body_from body.now) w
piece_before (piece.Again test body) w = Again (exp_of (term_of test.now)) (body_from body.now) ∷ w
piece_before (piece.Turns count body) w = Turns count (body_from body.now) ∷ w

-- pieces, of which the last comes first, and then the rest
abbrev pub work_onto : List Piece → List Work → List Work
work_onto [] w = w
work_onto (p ∷ ps) w = work_onto ps (piece_before p w)

abbrev pub work_of : List Piece → List Work
work_of ps = work_onto ps []

abbrev pub work_of_task : Task → Work
work_of_task (task.Begin s) = Begin (step_from s.now)
work_of_task (task.Again test body) = Again (exp_of (term_of test.now)) (body_from body.now)
work_of_task (task.Turns count body) = Turns count (body_from body.now)

-- where there is no task, nothing is left
abbrev pub IsTaken : Option Task → List Piece → List Piece → Type 0
IsTaken None old new = (work_of old ≡ []) × (new ≡ [])
IsTaken (Some t) old new = work_of old ≡ work_of_task t ∷ work_of new

-- whether the stop was found, and the statement that is it: then the pieces stand for the work after it, else they are as before
abbrev pub IsFound : Option (Bor NamedStmt) → Option Step → Option (List Work) → List Piece → List Piece → Type 0
IsFound (Some s) stop after old new = (stop ≡ Some (step_from s.now)) × (after ≡ Some (work_of new))
IsFound None stop after old new = (stop ≡ None) × (after ≡ None) × (new ≡ old)

-- what is left of a body after stop k, and what that stop waits for; the begin counts as stop 0
abbrev pub work_after : Body → ℕ → List ℤ → List Work
work_after body zero counts = body_then body []
work_after body (suc k) counts = unwrap_or (after_body body (suc k) counts []) []

abbrev pub pause_after : Body → ℕ → Option Pause
pause_after body zero = None
pause_after body (suc k) = pause_of_step (stop_at body (suc k))
