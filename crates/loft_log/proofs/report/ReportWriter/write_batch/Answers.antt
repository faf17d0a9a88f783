use Rattle.std.proofs.Common.{◌≡◌, Err, refl, arith}
use Rattle.std.proofs.lemmas.Result.{err_from_is_err_and}
use Rattle.loft_base.proofs.WritesLemmas.{goes_on, fails, ends_here, rest_is}
use Rattle.loft_log.proofs.ReportLemmas.{batch-written, batch-end}
use Rattle.loft_log.proofs.report.ReportWriter.write_batch.Goals as goal

pub returns-in_err-write_order : goal.returns-in_err-write_order
returns-in_err-write_order g c =
    let p = err_from_is_err_and c.from_residual.result c.from_residual.ensures.1 in
    let is : c.from_residual.result ≡ Err c.in_err-write_order.field-0.0 = rw (p.1, p.2) refl in
    fails _ is c.in_err-write_order.ensures (rest_is (batch-written c.args.self.now.heads.now c.args.stopped.now c.ends_from.result.0.now c.args.batch.now c.args.marks.now c.loop-index.index c.index-batch-index.result _ (omega (arith, c.min-index-end.ensures)) c.index-batch-index.is (omega (arith, c.min-index-end.ensures)) (c.ends_from.ensures.here c.args.stopped.now c.loop-index.invariant.1 c.args.self.now.heads.now)) c.loop-index.invariant.0)

pub loop-index-preserved : goal.loop-index-preserved
loop-index-preserved g c = (goes_on _ c.in_ok-write_order.ensures (rest_is (batch-written c.args.self.now.heads.now c.args.stopped.now c.ends_from.result.0.now c.args.batch.now c.args.marks.now c.loop-index.index c.index-batch-index.result _ (omega (arith, c.min-index-end.ensures)) c.index-batch-index.is (omega (arith, c.min-index-end.ensures)) (c.ends_from.ensures.here c.args.stopped.now c.loop-index.invariant.1 c.args.self.now.heads.now)) c.loop-index.invariant.0), c.ends_from.ensures.rest c.args.stopped.now c.loop-index.invariant.1)

pub returns : goal.returns
returns g c = ends_here (rest_is (batch-end c.args.self.now.heads.now c.args.stopped.now c.args.batch.now c.args.marks.now c.loop-index.index (omega (arith, c.min-index-end.ensures))) c.loop-index.invariant.0)
