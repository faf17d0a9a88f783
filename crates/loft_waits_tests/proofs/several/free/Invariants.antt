use Rattle.std.proofs.Common.{◌≡◌, []}
use Rattle.std.specs.Prelude.{replicate}
use Rattle.loft_waits.specs.Told.{nobody, no_counts}
use Rattle.loft_waits_tests.proofs.several.free.Given as goal

abbrev pub invariant-loop-position : goal.invariant-loop-position
invariant-loop-position l = l.waits ≡ record { waits = replicate l._position nobody; counts = no_counts 1; ended = []; closes = 0 }
