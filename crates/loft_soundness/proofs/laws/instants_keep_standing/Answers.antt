use Rattle.loft_soundness.proofs.OrderLemmas.{starts_fit}
use Rattle.loft_soundness.proofs.InstantLemmas.{empty_fits, machine_fits, sent_fits, unlinked_fits, outside_all_fit}
use Rattle.loft_soundness.proofs.laws.instants_keep_standing.Goals as goal

pub returns-clause-begins : goal.returns-clause-begins
returns-clause-begins c = empty_fits

pub returns-clause-starts : goal.returns-clause-starts
returns-clause-starts c = starts_fit

pub returns-clause-machine : goal.returns-clause-machine
returns-clause-machine c = machine_fits

pub returns-clause-sent : goal.returns-clause-sent
returns-clause-sent c = sent_fits

pub returns-clause-unlinked : goal.returns-clause-unlinked
returns-clause-unlinked c = unlinked_fits

pub returns-clause-clients : goal.returns-clause-clients
returns-clause-clients c = outside_all_fit
