use Rattle.std.proofs.Common.{◌≡◌, []}
use Rattle.loft_course.specs.Course.{stands_after}
use Rattle.loft_replay.proofs.plain.stations.Given as goal

-- the schedulers so far
abbrev pub invariant-schedulers : goal.invariant-schedulers
invariant-schedulers g l = l.stations.items ≡ stands_after g.X.Setting.program g.X.Setting.options [] l.k
