use Rattle.std.proofs.Common.{◌≡◌, Err, refl}
use Rattle.std.proofs.lemmas.Result.{err_from_is_err_and}
use Rattle.loft_base.proofs.WritesLemmas.{begins, goes_on, fails, closes}
use Rattle.loft_log.proofs.report.ReportWriter.write_order.Goals as goal

pub returns-in_err-write_line : goal.returns-in_err-write_line
returns-in_err-write_line g c =
    let p = err_from_is_err_and c.from_residual.result c.from_residual.ensures.1 in
    let is : c.from_residual.result ≡ Err c.in_err-write_line.field-0.0 = rw (p.1, p.2) refl in
    fails _ is (c.in_err-write_line.ensures _ c.make_order_line.ensures) (begins _ _ _ _ _)

pub returns : goal.returns
returns g c = closes c.write_ends.ensures (goes_on _ (c.in_ok-write_line.ensures _ c.make_order_line.ensures) (begins _ _ _ _ _))
