use Rattle.loft_lock_rewriting.proofs.Rewritten.{rewritten_says}
use Rattle.loft_lock_rewriting.proofs.laws.rewritten_texts_are_cut.Goals as goal

pub returns : goal.returns
returns c = rewritten_says
