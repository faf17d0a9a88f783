use Rattle.std.proofs.Common.{◌≡◌, Err, refl}
use Rattle.std.proofs.lemmas.Result.{err_from_is_err_and}
use Rattle.loft_base.specs.declared.writing.WriteError.TheVariants.{NoMemory}
use Rattle.loft_base.proofs.WritesLemmas.{begins, goes_on, fails, closes, lacks_memory}
use Rattle.loft_log.proofs.report.ReportWriter.write_left.Goals as goal

pub returns-in_err-count : goal.returns-in_err-count
returns-in_err-count g c =
    let p = err_from_is_err_and c.from_residual.result c.from_residual.ensures.1 in
    let is : c.from_residual.result ≡ Err NoMemory = rw (p.1, p.2) refl in
    lacks_memory is (begins _ _ _ _ _)

pub returns-in_err-write_number : goal.returns-in_err-write_number
returns-in_err-write_number g c =
    let p = err_from_is_err_and c.from_residual-in_err-write_number.result c.from_residual-in_err-write_number.ensures.1 in
    let is : c.from_residual-in_err-write_number.result ≡ Err c.in_err-write_number.field-0.0 = rw (p.1, p.2) refl in
    fails _ is (rw c.in_ok-count.ensures at c.in_err-write_number.ensures) (begins _ _ _ _ _)

pub returns : goal.returns
returns g c = closes c.write_waiting.ensures (goes_on _ (rw c.in_ok-count.ensures at c.in_ok-write_number.ensures) (begins _ _ _ _ _))
