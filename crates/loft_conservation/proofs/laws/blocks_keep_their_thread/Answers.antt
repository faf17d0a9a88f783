use Rattle.loft_conservation.proofs.BlockKeeps.{is_block}
use Rattle.loft_conservation.proofs.laws.blocks_keep_their_thread.Goals as goal

pub returns : goal.returns
returns c = is_block
