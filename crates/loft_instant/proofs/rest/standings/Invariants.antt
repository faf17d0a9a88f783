use Rattle.std.proofs.Common.{◌≡◌, take}
use Rattle.loft_passes.specs.View.{standings_of}
use Rattle.loft_instant.proofs.rest.standings.Given as goal

-- the first of them are there
abbrev pub invariant-loop-runner : goal.invariant-loop-runner
invariant-loop-runner l = l.standings ≡ standings_of (take l.runner-index l.runners)
