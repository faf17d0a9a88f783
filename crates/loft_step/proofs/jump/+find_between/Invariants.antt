use Rattle.std.proofs.Common.{◌-◌}
use Rattle.loft_step.proofs.jump.+find_between.Given as goal

-- the operations that are left
abbrev pub decreases-find_between : goal.decreases-find_between
decreases-find_between l = l.high - l.low
