use Rattle.loft_base.proofs.WritesLemmas.{begins, closes, rest_is}
use Rattle.loft_log.proofs.ReportLemmas.{leaver-written}
use Rattle.loft_log.proofs.report.ReportWriter.write_leaver.Goals as goal

pub returns-in-Arrive : goal.returns-in-Arrive
returns-in-Arrive g c = closes (c.write_line.ensures _ c.make_leaver_line.ensures) (rest_is (leaver-written c.args.self.now.heads.now c.args.sent.now.to c.args.sent.now.order c.in-Arrive.thread c.as_thread.result.now c.in-Arrive.is c.as_thread.ensures) (begins _ _ _ _ _))
