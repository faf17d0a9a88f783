use Rattle.std.proofs.Common.{length}
use Rattle.loft_report_reader.proofs.ahead.Ahead.+more_values.Given as goal

abbrev pub decreases-more_values : goal.decreases-more_values
decreases-more_values l = length l.self.now.rest.now
