use Rattle.loft_place.proofs.Reaching.{module_stands}
use Rattle.loft_place.proofs.laws.placed_programs_never_meet.Goals as goal

pub returns-clause-modules : goal.returns-clause-modules
returns-clause-modules c = λ n fits placed m signature x is s q met. module_stands n m signature x s q fits placed is met
