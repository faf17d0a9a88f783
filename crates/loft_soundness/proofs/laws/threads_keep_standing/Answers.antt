use Rattle.loft_soundness.proofs.StandLemmas.{run_leaves}
use Rattle.loft_soundness.proofs.laws.threads_keep_standing.Goals as goal

pub returns : goal.returns
returns c = run_leaves
