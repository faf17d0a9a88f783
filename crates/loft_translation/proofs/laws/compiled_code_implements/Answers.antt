use Rattle.loft_translation.proofs.ImplementsLaw.{implements}
use Rattle.loft_translation.proofs.Placed.{placed_implements}
use Rattle.loft_translation.proofs.laws.compiled_code_implements.Goals as goal

pub returns-clause-whole : goal.returns-clause-whole
returns-clause-whole c = implements

pub returns-clause-placed : goal.returns-clause-placed
returns-clause-placed c = placed_implements
