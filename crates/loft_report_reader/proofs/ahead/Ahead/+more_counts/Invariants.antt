use Rattle.std.proofs.Common.{length}
use Rattle.loft_report_reader.proofs.ahead.Ahead.+more_counts.Given as goal

abbrev pub decreases-more_counts : goal.decreases-more_counts
decreases-more_counts l = length l.self.now.rest.now
