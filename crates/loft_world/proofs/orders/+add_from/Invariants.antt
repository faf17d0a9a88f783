use Rattle.std.proofs.Common.{length, ◌-◌}
use Rattle.loft_world.proofs.orders.+add_from.Given as goal

-- the schedulers that are left
abbrev pub decreases-add_from : goal.decreases-add_from
decreases-add_from l = length l.waits.now - l.at
