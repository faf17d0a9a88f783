use Rattle.loft_base.proofs.WritesLemmas.{begins, closes, rest_is}
use Rattle.loft_log.proofs.ReportLemmas.{end-written}
use Rattle.loft_log.proofs.report.ReportWriter.write_end_at.Goals as goal

pub returns-then-ended-index : goal.returns-then-ended-index
returns-then-ended-index g c = closes (c.write_line.ensures _ c.make_end_line.ensures) (rest_is (end-written c.args.self.now.heads.now c.args.index c.args.ended c.if-ended-index.true) (begins _ _ _ _ _))
