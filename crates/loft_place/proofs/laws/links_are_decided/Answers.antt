use Rattle.loft_place.proofs.Answered.{placed_or_not}
use Rattle.loft_place.proofs.laws.links_are_decided.Goals as goal

pub returns-clause-some : goal.returns-clause-some
returns-clause-some c = λ n. placed_or_not n
