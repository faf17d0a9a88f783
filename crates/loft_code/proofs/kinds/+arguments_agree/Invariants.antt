use Rattle.std.proofs.Common.{length}
use Rattle.loft_code.proofs.kinds.+arguments_agree.Given as goal

-- the parameters that are left
abbrev pub decreases-arguments_agree : goal.decreases-arguments_agree
decreases-arguments_agree l = length l.parameters.now
