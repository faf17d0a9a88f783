-- The frames that go on, where the innermost is taken off.
use Rattle.std.proofs.Common.{◌≡◌, ℤ, pos, negsuc, zero, suc, List, [], ◌∷◌, ◌++◌, refl, sym, ap, ◌∙◌, Option, Some, None, Vec, Global}
use Rattle.loft_tree.specs.Resolved.{Step, Do, Hold, Call, Choose, Loop, Times, Body, Resolved}
use Rattle.loft_sense.specs.Run.{Active, if_finish, live}
use Rattle.loft_sense.specs.Tree.{Work, tree, next_begin, next_turn, next_work}
use Rattle.loft_walk.specs.declared.running.Running.{Running}
use Rattle.loft_walk.specs.declared.work.Piece.{Piece}
use Rattle.loft_walk.specs.declared.work.Task.{Task}
use Rattle.loft_walk.specs.declared.work.Task.TheVariants as task
use Rattle.loft_walk.specs.Pieces.{body_from, step_from, work_of, work_of_task, IsTaken}
use Rattle.loft_walk.specs.Frames.{active, actives, with_task, live_of}
use Rattle.loft_walk.proofs.Frames.{actives-push}

-- no module ends at a task
module _ (w : List Work) (x y : List (Active (List Work))) where
  begins : (s : Step) → if_finish (next_begin s w) x y ≡ y
  begins (Do action) = refl
  begins (Hold k pause) = refl
  begins (Call k m arguments) = refl
  begins (Choose test first second) = refl
  begins (Loop test body) = refl
  begins (Times count body) = refl

  turns : (n : ℤ) (body : Body) → if_finish (next_turn n body w) x y ≡ y
  turns (pos zero) body = refl
  turns (pos (suc n)) body = refl
  turns (negsuc n) body = refl

  stays : (t : Task) → if_finish (next_work (work_of_task t ∷ w)) x y ≡ y
  stays (task.Begin s) = begins (step_from s.now)
  stays (task.Again test body) = refl
  stays (task.Turns count body) = turns count (body_from body.now)

module _ (p : Resolved) (rs rest : List Running) (top : Running) (is_last : rs ≡ rest ++ top ∷ []) where
  live_with : (w : List Work) → work_of top.work.items ≡ w → live (tree p) (actives rs) ≡ if_finish (next_work w) (live (tree p) (actives rest)) (record (active top) { at = w } ∷ actives rest)
  live_with w e =
      ap (live (tree p)) (ap actives is_last ∙ actives-push rest top)
      ∙ ap (λ (v : List Work). if_finish (next_work v) (live (tree p) (actives rest)) (record (active top) { at = v } ∷ actives rest)) e

  -- it has nothing to do
  pub top_drops : (o : Option Task) (new : List Piece) → o ≡ None → IsTaken o top.work.items new → live (tree p) (actives rest) ≡ live (tree p) (actives rs)
  top_drops None new e t = sym (live_with [] t.0)
  top_drops (Some x) new e t = absurd cc

  -- it has something to do
  pub top_stays : (o : Option Task) (x : Task) (new : Vec Piece Global) (after : List Running) → o ≡ Some x → IsTaken o top.work.items new.items → after ≡ rest ++ record top { work = new } ∷ []
      → live (tree p) (actives rs) ≡ live_of (Some x) (actives after)
  top_stays None x new after e t is_after = absurd cc
  top_stays (Some y) x new after e t is_after =
      let same : y ≡ x = cc in
      live_with (work_of_task y ∷ work_of new.items) t
      ∙ (stays (work_of new.items) (live (tree p) (actives rest)) (with_task y (active (record top { work = new })) ∷ actives rest) y
      ∙ (ap (λ (z : Task). live_of (Some z) (active (record top { work = new }) ∷ actives rest)) same
      ∙ ap (live_of (Some x)) (sym (ap actives is_after ∙ actives-push rest (record top { work = new })))))
