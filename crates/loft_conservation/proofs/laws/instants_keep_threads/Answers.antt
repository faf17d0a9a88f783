use Rattle.loft_conservation.proofs.InstantKeeps.{instant_keeps}
use Rattle.loft_conservation.proofs.laws.instants_keep_threads.Goals as goal

pub returns : goal.returns
returns c = instant_keeps
