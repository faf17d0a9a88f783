use Rattle.loft_history_laws.proofs.FreshLemmas.{one_place, linked_once}
use Rattle.loft_history_laws.proofs.WordLemmas.{in_one, nowhere, hands_agree}
use Rattle.loft_history_laws.proofs.laws.threads_are_in_one_place.Goals as goal

pub returns-clause-counts : goal.returns-clause-counts
returns-clause-counts c = one_place

pub returns-clause-one : goal.returns-clause-one
returns-clause-one c = in_one

pub returns-clause-nowhere : goal.returns-clause-nowhere
returns-clause-nowhere c = nowhere

pub returns-clause-linked : goal.returns-clause-linked
returns-clause-linked c = linked_once

pub returns-clause-hands : goal.returns-clause-hands
returns-clause-hands c = hands_agree
