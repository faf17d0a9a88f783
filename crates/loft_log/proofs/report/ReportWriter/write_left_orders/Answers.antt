use Rattle.std.proofs.Common.{◌≡◌, map, Err, refl, ap}
use Rattle.std.proofs.lemmas.Result.{err_from_is_err_and}
use Rattle.loft_log.proofs.LineLemmas.{drop-at}
use Rattle.loft_base.proofs.WritesLemmas.{goes_on, fails, rest_is}
use Rattle.loft_orders.specs.Lines.{text_of}
use Rattle.loft_history.specs.Report.{left_line}
use Rattle.loft_log.proofs.report.ReportWriter.write_left_orders.Goals as goal

pub returns-in_err-write_line : goal.returns-in_err-write_line
returns-in_err-write_line g c =
    let p = err_from_is_err_and c.from_residual.result c.from_residual.ensures.1 in
    let is : c.from_residual.result ≡ Err c.in_err-write_line.field-0.0 = rw (p.1, p.2) refl in
    fails _ is (c.in_err-write_line.ensures _ c.make_left_order_line.ensures) (rest_is (ap (λ items. text_of (map (left_line c.args.self.now.heads.now c.args.s) items)) (drop-at c.args.orders.now c.loop-order.order-index c.order-item.result c.loop-order-test.true c.order-item.is)) c.loop-order.invariant)

pub loop-order-preserved : goal.loop-order-preserved
loop-order-preserved g c = goes_on _ (c.in_ok-write_line.ensures _ c.make_left_order_line.ensures) (rest_is (ap (λ items. text_of (map (left_line c.args.self.now.heads.now c.args.s) items)) (drop-at c.args.orders.now c.loop-order.order-index c.order-item.result c.loop-order-test.true c.order-item.is)) c.loop-order.invariant)
