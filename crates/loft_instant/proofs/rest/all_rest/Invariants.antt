use Rattle.std.proofs.Common.{◌≡◌, drop}
use Rattle.loft_sense.specs.Rest.{all_rest}
use Rattle.loft_passes.specs.View.{standings_of}
use Rattle.loft_instant.proofs.rest.all_rest.Given as goal

-- it turns on the rest
abbrev pub invariant-loop-runner : goal.invariant-loop-runner
invariant-loop-runner l = all_rest (standings_of l.runners) l.known ≡ all_rest (standings_of (drop l.runner-index l.runners)) l.known
