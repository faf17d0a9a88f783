use Rattle.std.proofs.Common.{◌≡◌, Err, refl}
use Rattle.std.proofs.lemmas.Result.{err_from_is_err_and}
use Rattle.loft_log.proofs.LineLemmas.{text_of-append}
use Rattle.loft_base.proofs.WritesLemmas.{begins, goes_on, fails, closes, rest_is}
use Rattle.loft_log.proofs.report.ReportWriter.write_final.Goals as goal

pub returns-in_err-write_number : goal.returns-in_err-write_number
returns-in_err-write_number g c =
    let p = err_from_is_err_and c.from_residual.result c.from_residual.ensures.1 in
    let is : c.from_residual.result ≡ Err c.in_err-write_number.field-0.0 = rw (p.1, p.2) refl in
    fails _ is (rw c.as_slice-linked.ensures at c.in_err-write_number.ensures) (begins _ _ _ _ _)

pub returns-in_err-write_standings : goal.returns-in_err-write_standings
returns-in_err-write_standings g c =
    let p = err_from_is_err_and c.from_residual-in_err-write_standings.result c.from_residual-in_err-write_standings.ensures.1 in
    let is : c.from_residual-in_err-write_standings.result ≡ Err c.in_err-write_standings.field-0.0 = rw (p.1, p.2) refl in
    fails _ is (rw c.as_slice-linked.ensures at c.in_err-write_standings.ensures) (rest_is (text_of-append _ _) (goes_on _ (rw c.as_slice-linked.ensures at c.in_ok-write_number.ensures) (begins _ _ _ _ _)))

pub returns : goal.returns
returns g c = closes (rw c.as_slice.ensures at c.write_shared.ensures) (goes_on _ (rw c.as_slice-linked.ensures at c.in_ok-write_standings.ensures) (rest_is (text_of-append _ _) (goes_on _ (rw c.as_slice-linked.ensures at c.in_ok-write_number.ensures) (begins _ _ _ _ _))))
