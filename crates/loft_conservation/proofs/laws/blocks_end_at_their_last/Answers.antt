use Rattle.loft_conservation.proofs.BlockLemmas.{block_ends}
use Rattle.loft_conservation.proofs.laws.blocks_end_at_their_last.Goals as goal

pub returns : goal.returns
returns c = block_ends
