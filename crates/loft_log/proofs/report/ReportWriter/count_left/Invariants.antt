use Rattle.std.proofs.Common.{◌≡◌, ◌+◌, length}
use Rattle.loft_log.specs.WorldReport.{world_left}
use Rattle.loft_log.proofs.ReportLemmas.{left_after}
use Rattle.loft_log.proofs.report.ReportWriter.count_left.Given as goal

-- counted so far, and still to be counted
abbrev pub invariant-loop-index : goal.invariant-loop-index
invariant-loop-index l = l.count + length (left_after l.self.heads.now l.world.history l.index) ≡ length (world_left l.self.heads.now l.world.history)
