-- Whole runs (docs/SEMANTICS.md, "History").
use Rattle.std.specs.Prelude.{◌≡◌, map, Ok}
use Rattle.loft_base.specs.declared.options.RunOptions.{RunOptions}
use Rattle.loft_sense.specs.Machine.{Prog, heads}
use Rattle.loft_history.specs.History.{choice_of, hist, HasEnded}
use Rattle.loft_world.specs.declared.results.Finished.{Finished}
use Rattle.loft_world.specs.Replay.{IsReplayOf}

-- a whole run: the world is the program's, its history is that of its choices, and has ended; the notes and the last states are those of the replay
pub record IsWholeRun (x : Prog) (o : RunOptions) (run : Finished) : Type 0 where
  pub heads : run.world.heads ≡ heads x
  pub history : hist x o (map choice_of run.world.history) ≡ Ok run.world.history
  pub ended : HasEnded x o run.world.history
  pub replay : IsReplayOf x o.limits run.world.history run.notes.of run.finals.of
