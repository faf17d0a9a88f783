use Rattle.loft_sense.proofs.EventLemmas.{instant_unmet}
use Rattle.loft_sense.proofs.run_laws.nobody_waits_for_a_present_event.Goals as goal

pub returns : goal.returns
returns c = instant_unmet
