use Rattle.loft_ft.proofs.KeptLemmas.{given_none, given_more, given_kept}
use Rattle.loft_ft.proofs.laws.accepted_calls_are_kept.Goals as goal

pub returns-clause-none : goal.returns-clause-none
returns-clause-none c = given_none

pub returns-clause-accepted : goal.returns-clause-accepted
returns-clause-accepted c = given_more

pub returns-clause-refused : goal.returns-clause-refused
returns-clause-refused c = given_kept
