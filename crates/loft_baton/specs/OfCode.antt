-- What holds of the world of a baton whenever no thread has it (docs/BATON.md, "The rule").
use Rattle.std.specs.Prelude.{◌≡◌}
use Rattle.std.specs.List.{All}
use Rattle.loft_code.specs.View.{automata_of}
use Rattle.loft_code.specs.declared.raw.CodeProgram.{CodeProgram}
use Rattle.loft_sense.specs.Machine.{Code}
use Rattle.loft_history.specs.History.{sent_in}
use Rattle.loft_soundness.specs.Machines.{SentFits}
use Rattle.loft_world.specs.State.{State}

-- The world has the declarations of the code. Each order of its history fits, for the code, at each scheduler to which it is
-- addressed, and each thread that is sent to the workers stands there.
pub record IsOfCode (c : CodeProgram) (w : State) : Type 0 where
  pub heads : w.heads ≡ c.heads
  pub fits : All (SentFits (Code (automata_of c))) (sent_in w.history)
