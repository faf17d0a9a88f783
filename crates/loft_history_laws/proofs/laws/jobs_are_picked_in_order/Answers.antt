use Rattle.loft_history_laws.proofs.PickLemmas.{in_picks, in_first_pick}
use Rattle.loft_history_laws.proofs.laws.jobs_are_picked_in_order.Goals as goal

pub returns-clause-picks : goal.returns-clause-picks
returns-clause-picks c = in_picks

pub returns-clause-first : goal.returns-clause-first
returns-clause-first c = in_first_pick
