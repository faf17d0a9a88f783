use Rattle.std.proofs.Common.{length}
use Rattle.loft_report_sets.proofs.number.+value_within.Given as goal

abbrev pub decreases-value_within : goal.decreases-value_within
decreases-value_within l = length l.bytes.now
