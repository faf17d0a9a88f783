use Rattle.std.proofs.Common.{◌≡◌}
use Rattle.loft_waits.specs.Told.{no_counts}
use Rattle.loft_waits.proofs.plain.absent.Given as goal

abbrev pub invariant-loop-e : goal.invariant-loop-e
invariant-loop-e l = l.counts.items ≡ no_counts l._e
