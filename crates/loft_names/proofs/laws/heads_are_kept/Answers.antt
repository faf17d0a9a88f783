use Rattle.loft_names.proofs.HeadsHolding.{heads_kept}
use Rattle.loft_names.proofs.laws.heads_are_kept.Goals as goal

pub returns : goal.returns
returns c = heads_kept
