use Rattle.std.proofs.Common.{◌≡◌, ◌+◌, ◌*◌, ◌≤◌, ◌∷◌, length}
use Rattle.loft_code.specs.View.{automata_of}
use Rattle.loft_sense.specs.Run.{going}
use Rattle.loft_sense.specs.Code.{code}
use Rattle.loft_effect.specs.View.{beside_of, steps_left}
use Rattle.loft_step.specs.Frames.{active, actives}
use Rattle.loft_step.specs.Kept.{AreKept}
use Rattle.loft_step.proofs.thread.walk_frames.Given as goal

-- to go on with the frames as they are now is to go on with them as they were
abbrev pub invariant-going : goal.invariant-going
invariant-going g l = record {
  goes : going (code (automata_of l.code)) (steps_left l.beside.around) (beside_of l.beside) (active l.top ∷ actives (automata_of l.code) l.outer)
      ≡ going (code (automata_of l.code)) (steps_left l.fn.beside.around) (beside_of l.fn.beside) (active l.fn.top ∷ actives (automata_of l.code) l.fn.outer);
  kept : AreKept l.outer;
  bound : l.beside.around.bound ≡ l.fn.beside.around.bound;
  grows : l.fn.beside.around.steps ≤ l.beside.around.steps;
  counted : l.steps + l.fn.beside.around.steps ≡ l.fn.steps + l.beside.around.steps;
}

-- a frame that is entered takes a step
abbrev pub decreases-going : goal.decreases-going
decreases-going g l = 2 * steps_left l.beside.around + length l.outer
