use Rattle.loft_history.proofs.LegalEntries.{legal_exactly}
use Rattle.loft_history.proofs.laws.legal_histories_grow_by_entries.Goals as goal

pub returns : goal.returns
returns c = legal_exactly
