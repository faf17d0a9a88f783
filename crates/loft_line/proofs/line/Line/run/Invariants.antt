use Rattle.std.specs.Prelude.{ℕ, ◌+◌, ◌*◌, ◌≤◌}
use Rattle.loft_sense.specs.Passes.{passes, steps_left}
use Rattle.loft_effect.specs.View.{around_of}
use Rattle.loft_passes.specs.View.{runners_of}
use Rattle.loft_ready.specs.Entered.{IsEntered}
use Rattle.loft_ready.proofs.PositionLemmas.{Onward}
use Rattle.loft_line.proofs.RunLemmas.{IfNext}
use Rattle.loft_line.specs.Counts.{runs_and_steps}
use Rattle.loft_line.specs.Line.{runners_in, IsLine, KeepsRun}
use Rattle.loft_line.proofs.line.Line.run.Given as goal

-- the passes go on at the next position, if there is one
abbrev pub invariant-runs : goal.invariant-runs
invariant-runs g l =
    let x = g.I.Interpreter.program l.interpreter in
    record {
      line : IsLine l.self;
      entered : IsEntered (runners_in l.self) (around_of l.around) l.self.waits;
      next : IfNext l.self.waits l.next;
      onward : Onward x (passes x (runners_of (runners_in l.fn.self)) (around_of l.fn.around)) (runners_in l.self) (around_of l.around) l.next;
      keeps : KeepsRun l.fn.self l.self;
      counted : l.steps + 2 * steps_left (runners_of (runners_in l.self)) ≤ l.fn.steps + 2 * steps_left (runners_of (runners_in l.fn.self));
      least : (budget : ℕ) → l.fn.steps + runs_and_steps budget (runners_of (runners_in l.self)) ≤ l.steps + runs_and_steps budget (runners_of (runners_in l.fn.self));
    }

abbrev pub decreases-runs : goal.decreases-runs
decreases-runs g l = steps_left (runners_of (runners_in l.self))
