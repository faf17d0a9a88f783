use Rattle.std.proofs.Common.{length}
use Rattle.loft_report_reader.proofs.ahead.Ahead.+frames.Given as goal

abbrev pub decreases-frames : goal.decreases-frames
decreases-frames l = length l.self.now.rest.now
