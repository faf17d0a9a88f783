use Rattle.std.proofs.Common.{◌≡◌, Err, refl}
use Rattle.std.proofs.lemmas.Result.{err_from_is_err_and}
use Rattle.loft_base.proofs.WritesLemmas.{goes_on, fails, rest_is}
use Rattle.loft_log.proofs.ReportLemmas.{leave_lines-from}
use Rattle.loft_log.proofs.report.ReportWriter.write_leavers.Goals as goal

pub returns-in_err-write_leaver : goal.returns-in_err-write_leaver
returns-in_err-write_leaver g c =
    let p = err_from_is_err_and c.from_residual.result c.from_residual.ensures.1 in
    let is : c.from_residual.result ≡ Err c.in_err-write_leaver.field-0.0 = rw (p.1, p.2) refl in
    fails _ is c.in_err-write_leaver.ensures (rest_is (leave_lines-from c.args.self.now.heads.now c.args.sents.now c.loop-sent.sent-index c.sent-item.result c.loop-sent-test.true c.sent-item.is) c.loop-sent.invariant)

pub loop-sent-preserved : goal.loop-sent-preserved
loop-sent-preserved g c = goes_on _ c.in_ok-write_leaver.ensures (rest_is (leave_lines-from c.args.self.now.heads.now c.args.sents.now c.loop-sent.sent-index c.sent-item.result c.loop-sent-test.true c.sent-item.is) c.loop-sent.invariant)
