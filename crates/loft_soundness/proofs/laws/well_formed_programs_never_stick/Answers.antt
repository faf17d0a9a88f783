use Rattle.loft_soundness.proofs.ValueLemmas.{value_at, eval_fits, eval_all_fits}
use Rattle.loft_soundness.proofs.ProgramLemmas.{pause_found}
use Rattle.loft_soundness.proofs.StandLemmas.{run_begins, run_goes_on, next_fits_there, run_lands}
use Rattle.loft_soundness.proofs.ThereLemmas.{shared_at_point, event_there, index_there}
use Rattle.loft_soundness.proofs.laws.well_formed_programs_never_stick.Goals as goal

pub returns-clause-begins : goal.returns-clause-begins
returns-clause-begins c = run_begins

pub returns-clause-goes_on : goal.returns-clause-goes_on
returns-clause-goes_on c = run_goes_on

pub returns-clause-next : goal.returns-clause-next
returns-clause-next c = next_fits_there

pub returns-clause-operations : goal.returns-clause-operations
returns-clause-operations c = run_lands

pub returns-clause-slots : goal.returns-clause-slots
returns-clause-slots c = value_at

pub returns-clause-shared : goal.returns-clause-shared
returns-clause-shared c = shared_at_point

pub returns-clause-events : goal.returns-clause-events
returns-clause-events c = event_there

pub returns-clause-values : goal.returns-clause-values
returns-clause-values c = eval_fits

pub returns-clause-arguments : goal.returns-clause-arguments
returns-clause-arguments c = eval_all_fits

pub returns-clause-indexes : goal.returns-clause-indexes
returns-clause-indexes c = index_there

pub returns-clause-pauses : goal.returns-clause-pauses
returns-clause-pauses c = pause_found
