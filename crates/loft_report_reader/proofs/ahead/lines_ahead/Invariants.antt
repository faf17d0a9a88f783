use Rattle.std.proofs.Common.{◌≡◌, ◌+◌, ◌∷◌, true, List, length, if◌then◌else◌}
use Rattle.loft_report_shape.specs.declared.part.Part.{Part}
use Rattle.loft_report_shape.specs.declared.part.Part.TheVariants.{Lines}
use Rattle.loft_report_reader.specs.Ahead.{Goes}
use Rattle.loft_report_reader.proofs.ahead.lines_ahead.Given as goal

abbrev pub invariant-loop-ahead : goal.invariant-loop-ahead
invariant-loop-ahead l = record {
  goes : (ps : List Part) → Goes (Lines l.fn.stage ∷ ps) l.fn.bytes (Lines l.next ∷ ps) l.rest;
  same : l.ahead.fits ≡ true → l.ahead.rest.now ≡ l.rest;
}

abbrev pub decreases-loop-ahead : goal.decreases-loop-ahead
decreases-loop-ahead l = length l.rest + (if l.ahead.fits then 1 else 0)
