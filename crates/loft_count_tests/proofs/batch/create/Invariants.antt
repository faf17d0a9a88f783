use Rattle.std.specs.Prelude.{All}
use Rattle.loft_code.specs.View.{automata_of}
use Rattle.loft_sense.specs.Fits.{Fits}
use Rattle.loft_sense.specs.Machine.{Code}
use Rattle.loft_count_tests.proofs.batch.create.Given as goal

abbrev pub invariant-threads : goal.invariant-threads
invariant-threads l = All (Fits (Code (automata_of l.code)) l.scheduler) l.batch
