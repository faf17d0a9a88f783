use Rattle.loft_sense.proofs.PassLemmas.{passes_end, nobody_is_ready}
use Rattle.loft_sense.proofs.laws.passes_end.Goals as goal

pub returns-clause-idle : goal.returns-clause-idle
returns-clause-idle c = passes_end

pub returns-clause-nobody : goal.returns-clause-nobody
returns-clause-nobody c = nobody_is_ready
