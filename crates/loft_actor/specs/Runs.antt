-- What a run leaves of its world (docs/ACTORS.md, "Runs").
use Rattle.std.specs.Prelude.{◌≡◌, ℕ}
use Rattle.loft_base.specs.declared.options.Limits.{Limits}
use Rattle.loft_base.specs.declared.options.RunOptions.{RunOptions}
use Rattle.loft_sense.specs.Machine.{Prog, heads as heads_of}
use Rattle.loft_history.specs.History.{HasEnded}
use Rattle.loft_history.specs.Legal.{IsLegal, HasNoCallers}
use Rattle.loft_world.specs.State.{State}

abbrev pub options_of : Limits → ℕ → RunOptions
options_of limits workers = record { limits = limits; workers = workers }

-- the world is the program's; its history is legal, no caller has an entry in it, and it has ended
pub record IsRun (x : Prog) (o : RunOptions) (w : State) : Type 0 where
  pub heads : w.heads ≡ heads_of x
  pub legal : IsLegal x o w.history
  pub callers : HasNoCallers (heads_of x) w.history
  pub ended : HasEnded x o w.history
