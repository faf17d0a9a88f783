-- Runs in their midst.
use Rattle.std.specs.Prelude.{ℕ, List, []}
use Rattle.loft_tree.specs.Resolved.{Resolved}
use Rattle.loft_orders.specs.declared.note.Act.{Act}
use Rattle.loft_sense.specs.Around.{Beside}
use Rattle.loft_sense.specs.Run.{Outcome, going}
use Rattle.loft_sense.specs.Tree.{tree}
use Rattle.loft_effect.specs.View.{beside_of, steps_left}
use Rattle.loft_effect.specs.declared.progress.Progress.{Progress}
use Rattle.loft_effect.specs.declared.progress.Progress.TheVariants as progress
use Rattle.loft_walk.specs.declared.paused.Paused.{Paused}
use Rattle.loft_walk.specs.Frames.{actives}

-- what a paused run comes to in this program, with the acts so far
abbrev pub paused_outcome : Resolved → Paused → Outcome
paused_outcome p run = going (tree p) (steps_left run.beside.around) (beside_of run.beside) (actives run.running.items)

-- how many steps a paused run may still make
abbrev pub paused_left : Paused → ℕ
paused_left run = steps_left run.beside.around

-- how many steps it may make in this instant
abbrev pub bound_of : Paused → ℕ
bound_of run = run.beside.around.bound

abbrev pub bound_in : Progress Paused → ℕ
bound_in (progress.Goes run) = bound_of run
bound_in (progress.Stops gone) = gone.around.bound

-- this holds where the run goes on
abbrev pub IfGoes : Progress Paused → Type 0 → Type 0
IfGoes (progress.Goes run) p = p
IfGoes (progress.Stops gone) p = Unit {0}

-- what a paused run did so far
abbrev pub acts_of : Paused → List Act
acts_of run = run.beside.around.acts

-- the same beside the frames of a thread that has done nothing so far
abbrev pub beside_anew : Beside → Beside
beside_anew b = record b { around = record b.around { acts = [] } }

-- what the run comes to as if it had done nothing so far
abbrev pub outcome_without_acts : Resolved → Paused → Outcome
outcome_without_acts p run = going (tree p) (steps_left run.beside.around) (beside_anew (beside_of run.beside)) (actives run.running.items)
