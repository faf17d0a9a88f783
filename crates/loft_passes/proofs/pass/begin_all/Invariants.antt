use Rattle.std.proofs.Common.{◌≡◌, ◌++◌, map, take, drop}
use Rattle.loft_sense.specs.Instant.{runner_of}
use Rattle.loft_passes.specs.View.{standings_of, runners_of}
use Rattle.loft_passes.proofs.pass.begin_all.Given as goal

-- those that have begun, and then the others as they begin
abbrev pub invariant-loop-runner : goal.invariant-loop-runner
invariant-loop-runner l =
    runners_of (take l.runner-index l.runner-items) ++ map (runner_of l.budget) (standings_of (drop l.runner-index l.runner-items))
    ≡ map (runner_of l.budget) (standings_of l.fn.runners.items)
