use Rattle.std.proofs.Common.{◌≡◌, Err, refl}
use Rattle.std.proofs.lemmas.Result.{err_from_is_err_and}
use Rattle.loft_log.proofs.LineLemmas.{text_of-append}
use Rattle.loft_base.proofs.WritesLemmas.{begins, goes_on, fails, closes, rest_is}
use Rattle.loft_log.proofs.report.ReportWriter.write_instant.Goals as goal

pub returns-in_err-write_number : goal.returns-in_err-write_number
returns-in_err-write_number g c =
    let p = err_from_is_err_and c.from_residual.result c.from_residual.ensures.1 in
    let is : c.from_residual.result ≡ Err c.in_err-write_number.field-0.0 = rw (p.1, p.2) refl in
    fails _ is c.in_err-write_number.ensures (begins _ _ _ _ _)

pub returns-in_err-write_batch : goal.returns-in_err-write_batch
returns-in_err-write_batch g c =
    let p = err_from_is_err_and c.from_residual-in_err-write_batch.result c.from_residual-in_err-write_batch.ensures.1 in
    let is : c.from_residual-in_err-write_batch.result ≡ Err c.in_err-write_batch.field-0.0 = rw (p.1, p.2) refl in
    fails _ is (rw (c.as_slice.ensures, c.as_slice-2.ensures) at c.in_err-write_batch.ensures) (rest_is (text_of-append _ _) (goes_on _ c.in_ok-write_number.ensures (begins _ _ _ _ _)))

pub returns-in_err-write_lines : goal.returns-in_err-write_lines
returns-in_err-write_lines g c =
    let p = err_from_is_err_and c.from_residual-in_err-write_lines.result c.from_residual-in_err-write_lines.ensures.1 in
    let is : c.from_residual-in_err-write_lines.result ≡ Err c.in_err-write_lines.field-0.0 = rw (p.1, p.2) refl in
    fails _ is (rw c.as_slice-3.ensures at c.in_err-write_lines.ensures) (rest_is (text_of-append _ _) (goes_on _ (rw (c.as_slice.ensures, c.as_slice-2.ensures) at c.in_ok-write_batch.ensures) (rest_is (text_of-append _ _) (goes_on _ c.in_ok-write_number.ensures (begins _ _ _ _ _)))))

pub returns-in_err-write_leavers : goal.returns-in_err-write_leavers
returns-in_err-write_leavers g c =
    let p = err_from_is_err_and c.from_residual-in_err-write_leavers.result c.from_residual-in_err-write_leavers.ensures.1 in
    let is : c.from_residual-in_err-write_leavers.result ≡ Err c.in_err-write_leavers.field-0.0 = rw (p.1, p.2) refl in
    fails _ is (rw c.as_slice-4.ensures at c.in_err-write_leavers.ensures) (rest_is (text_of-append _ _) (goes_on _ (rw c.as_slice-3.ensures at c.in_ok-write_lines.ensures) (rest_is (text_of-append _ _) (goes_on _ (rw (c.as_slice.ensures, c.as_slice-2.ensures) at c.in_ok-write_batch.ensures) (rest_is (text_of-append _ _) (goes_on _ c.in_ok-write_number.ensures (begins _ _ _ _ _)))))))

pub returns-in_err-write_lines-2 : goal.returns-in_err-write_lines-2
returns-in_err-write_lines-2 g c =
    let p = err_from_is_err_and c.from_residual-in_err-write_lines-2.result c.from_residual-in_err-write_lines-2.ensures.1 in
    let is : c.from_residual-in_err-write_lines-2.result ≡ Err c.in_err-write_lines-2.field-0.0 = rw (p.1, p.2) refl in
    fails _ is (rw c.as_slice-5.ensures at c.in_err-write_lines-2.ensures) (rest_is (text_of-append _ _) (goes_on _ (rw c.as_slice-4.ensures at c.in_ok-write_leavers.ensures) (rest_is (text_of-append _ _) (goes_on _ (rw c.as_slice-3.ensures at c.in_ok-write_lines.ensures) (rest_is (text_of-append _ _) (goes_on _ (rw (c.as_slice.ensures, c.as_slice-2.ensures) at c.in_ok-write_batch.ensures) (rest_is (text_of-append _ _) (goes_on _ c.in_ok-write_number.ensures (begins _ _ _ _ _)))))))))

pub returns : goal.returns
returns g c = closes (rw c.as_slice-6.ensures at c.write_lines-3.ensures) (goes_on _ (rw c.as_slice-5.ensures at c.in_ok-write_lines-2.ensures) (rest_is (text_of-append _ _) (goes_on _ (rw c.as_slice-4.ensures at c.in_ok-write_leavers.ensures) (rest_is (text_of-append _ _) (goes_on _ (rw c.as_slice-3.ensures at c.in_ok-write_lines.ensures) (rest_is (text_of-append _ _) (goes_on _ (rw (c.as_slice.ensures, c.as_slice-2.ensures) at c.in_ok-write_batch.ensures) (rest_is (text_of-append _ _) (goes_on _ c.in_ok-write_number.ensures (begins _ _ _ _ _))))))))))
