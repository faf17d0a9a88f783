use Rattle.std.proofs.Common.{length}
use Rattle.loft_report_sets.proofs.line.+begins_line.Given as goal

abbrev pub decreases-begins_line : goal.decreases-begins_line
decreases-begins_line l = length l.bytes.now
