-- How far runs have come, whatever a run in its midst is.
use Rattle.std.specs.Prelude.{ℕ, suc}
use Rattle.loft_sense.specs.Run.{Outcome}
use Rattle.loft_effect.specs.declared.progress.Progress.{Progress}
use Rattle.loft_effect.specs.declared.progress.Progress.TheVariants.{Goes, Stops}
use Rattle.loft_effect.specs.Outcomes.{gone_of}

-- what it comes to, where a run in its midst comes to this
abbrev pub progress_outcome : {R : Type 0} → (R → Outcome) → Progress R → Outcome
progress_outcome outcome (Goes run) = outcome run
progress_outcome outcome (Stops gone) = gone_of gone

-- one more than the steps that a run in its midst may still make, and none where it has stopped
abbrev pub progress_left : {R : Type 0} → (R → ℕ) → Progress R → ℕ
progress_left left (Goes run) = suc (left run)
progress_left left (Stops gone) = 0
