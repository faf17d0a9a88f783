use Rattle.std.proofs.Common.{◌≤◌}
use Rattle.loft_passes.proofs.close.count_leavers.Given as goal

-- no more than were seen
abbrev pub invariant-loop-runner : goal.invariant-loop-runner
invariant-loop-runner l = l.count ≤ l.runner-index
