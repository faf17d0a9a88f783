use Rattle.loft_history.proofs.GrowthLemmas.{own_grows, grows_in_history}
use Rattle.loft_history.proofs.LegalLemmas.{faithful_none}
use Rattle.loft_history.proofs.laws.own_lists_grow.Goals as goal

pub returns-clause-begins : goal.returns-clause-begins
returns-clause-begins c = faithful_none

pub returns-clause-grows : goal.returns-clause-grows
returns-clause-grows c = own_grows

pub returns-clause-in_history : goal.returns-clause-in_history
returns-clause-in_history c = grows_in_history
