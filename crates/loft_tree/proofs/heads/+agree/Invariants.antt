use Rattle.std.proofs.Common.{length}
use Rattle.loft_tree.proofs.heads.+agree.Given as goal

abbrev pub decreases-agree : goal.decreases-agree
decreases-agree l = length l.parameters.now
