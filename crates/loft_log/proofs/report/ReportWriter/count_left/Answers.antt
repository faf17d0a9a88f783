use Rattle.std.proofs.Common.{◌≡◌, ◌+◌, length, arith}
use Rattle.loft_log.specs.WorldReport.{world_left}
use Rattle.loft_log.proofs.ReportLemmas.{left_after, left-counted}
use Rattle.loft_log.proofs.report.ReportWriter.count_left.Goals as goal

pub loop-index-preserved : goal.loop-index-preserved
loop-index-preserved c =
    let counted = left-counted c.args.self.now.heads.now c.args.world.now.heads c.args.world.now.history c.loop-index.index c.in_ok-s.s c.waiting.result (omega (arith, c.len-index-end.ensures)) c.requires.heads c.in_ok-s.ensures c.waiting.ensures in
    let sum : c.in_ok-count.count + length (left_after c.args.self.now.heads.now c.args.world.now.history (c.loop-index.index + 1)) ≡ length (world_left c.args.self.now.heads.now c.args.world.now.history) = omega (arith, counted, c.in_ok-count.ensures, c.loop-index.invariant) in
    sum
