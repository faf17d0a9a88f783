use Rattle.std.proofs.Common.{◌≡◌, Err, refl}
use Rattle.std.proofs.lemmas.Result.{err_from_is_err_and}
use Rattle.loft_base.proofs.WritesLemmas.{goes_on, fails, rest_is}
use Rattle.loft_log.proofs.ReportLemmas.{ends_at-from}
use Rattle.loft_log.proofs.report.ReportWriter.write_ends.Goals as goal

pub returns-in_err-write_end_at : goal.returns-in_err-write_end_at
returns-in_err-write_end_at g c =
    let p = err_from_is_err_and c.from_residual.result c.from_residual.ensures.1 in
    let is : c.from_residual.result ≡ Err c.in_err-write_end_at.field-0.0 = rw (p.1, p.2) refl in
    fails _ is c.in_err-write_end_at.ensures (rest_is (ends_at-from c.args.self.now.heads.now c.args.index c.args.ends.now c.loop-ended.ended-index _ c.loop-ended-test.true) c.loop-ended.invariant)

pub loop-ended-preserved : goal.loop-ended-preserved
loop-ended-preserved g c = goes_on _ c.in_ok-write_end_at.ensures (rest_is (ends_at-from c.args.self.now.heads.now c.args.index c.args.ends.now c.loop-ended.ended-index _ c.loop-ended-test.true) c.loop-ended.invariant)
