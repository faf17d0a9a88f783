-- Runs that have come so far.
use Rattle.std.proofs.Common.{◌≡◌, subst, Result}
use Rattle.std.specs.Prelude.{IfOk}
use Rattle.loft_base.specs.declared.errors.NoMemory.{NoMemory}
use Rattle.loft_tree.specs.Resolved.{Resolved}
use Rattle.loft_sense.specs.Run.{Outcome}
use Rattle.loft_effect.specs.declared.progress.Progress.{Progress}
use Rattle.loft_effect.specs.Progress.{progress_outcome}
use Rattle.loft_walk.specs.declared.paused.Paused.{Paused}
use Rattle.loft_walk.specs.Midst.{paused_outcome}

-- what a run comes to that comes to another
pub progress_as : (r : Result (Progress Paused) NoMemory) (p : Resolved) (x y : Outcome) → x ≡ y → IfOk r (λ g. progress_outcome (paused_outcome p) g ≡ x) → IfOk r (λ g. progress_outcome (paused_outcome p) g ≡ y)
progress_as r p x y e h = subst (λ (z : Outcome). IfOk r (λ g. progress_outcome (paused_outcome p) g ≡ z)) e h
