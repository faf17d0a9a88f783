use Rattle.std.proofs.Common.{◌≡◌, []}
use Rattle.loft_course.specs.Course.{hands_after}
use Rattle.loft_replay.proofs.plain.workers.Given as goal

-- the workers so far
abbrev pub invariant-workers : goal.invariant-workers
invariant-workers g l = l.workers.items ≡ hands_after g.X.Setting.program g.X.Setting.options [] l.counter
