use Rattle.std.proofs.Common.{◌≡◌, false, take}
use Rattle.loft_sense.specs.Apply.{is_linked}
use Rattle.loft_passes.specs.View.{standings_of}
use Rattle.loft_instant.proofs.batch.position.Given as goal

-- it isn't one of the first
abbrev pub invariant-loop-index : goal.invariant-loop-index
invariant-loop-index l = is_linked l.thread (standings_of (take l.index l.linked)) ≡ false
