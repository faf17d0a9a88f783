use Rattle.std.proofs.Common.{◌≡◌, ◌+◌, ◌≤◌, List, ◌∷◌}
use Rattle.loft_code.specs.View.{automata_of}
use Rattle.loft_sense.specs.Run.{Active, going}
use Rattle.loft_sense.specs.Code.{Point, code}
use Rattle.loft_effect.specs.View.{beside_of, steps_left}
use Rattle.loft_step.specs.Frames.{active}
use Rattle.loft_step.proofs.running.Running.walk.Given as goal

-- to go on with the frame as it is now is to go on with it as it was
abbrev pub invariant-stepping : goal.invariant-stepping
invariant-stepping g l = record {
  goes : (rs : List (Active Point)) → going (code (automata_of l.code)) (steps_left l.fn.beside.around) (beside_of l.fn.beside) (active l.fn.self ∷ rs)
      ≡ going (code (automata_of l.code)) (steps_left l.beside.around) (beside_of l.beside) (active l.self ∷ rs);
  «module» : l.self.scope.at.module ≡ l.fn.self.scope.at.module;
  bound : l.beside.around.bound ≡ l.fn.beside.around.bound;
  grows : l.fn.beside.around.steps ≤ l.beside.around.steps;
  counted : l.steps + l.fn.beside.around.steps ≡ l.fn.steps + l.beside.around.steps;
}

abbrev pub decreases-stepping : goal.decreases-stepping
decreases-stepping g l = steps_left l.beside.around
