use Rattle.loft_history.proofs.LegalEntries.{made_exactly}
use Rattle.loft_history.proofs.laws.legal_histories_are_made.Goals as goal

pub returns : goal.returns
returns c = made_exactly
