use Rattle.loft_history.proofs.HistoryLemmas.{ended_exactly}
use Rattle.loft_history.proofs.laws.ended_histories_go_no_further.Goals as goal

pub returns : goal.returns
returns c = ended_exactly
