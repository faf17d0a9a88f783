use Rattle.loft_block_replay.proofs.MadeLemmas.{final_text}
use Rattle.loft_block_replay.proofs.block.finish.Goals as goal

pub returns : goal.returns
returns g c = final_text c.args.text.now c.push_final.new.text c.heads.result.now c.args.p.now.heads c.args.s _ _ _ _ c.heads.ensures c.in_ok-last.ensures.linked c.in_ok-last.ensures.shared c.push_final.ensures
