use Rattle.std.proofs.Common.{◌≡◌, ◌+◌, length}
use Rattle.loft_report_shape.specs.Report.{feeds}
use Rattle.loft_report_reader.proofs.log.feeds.Given as goal

abbrev pub invariant-loop-at : goal.invariant-loop-at
invariant-loop-at l = l.n + feeds l.rest ≡ feeds l.bytes

abbrev pub decreases-loop-at : goal.decreases-loop-at
decreases-loop-at l = length l.rest
