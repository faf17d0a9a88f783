use Rattle.std.proofs.Common.{◌≡◌, Err, refl}
use Rattle.std.proofs.lemmas.Result.{err_from_is_err_and}
use Rattle.loft_log.proofs.LineLemmas.{text_of-append}
use Rattle.loft_base.proofs.WritesLemmas.{begins, goes_on, fails, closes, rest_is}
use Rattle.loft_log.proofs.report.ReportWriter.write_block.Goals as goal

pub returns-in_err-write_scheduler : goal.returns-in_err-write_scheduler
returns-in_err-write_scheduler g c =
    let p = err_from_is_err_and c.from_residual.result c.from_residual.ensures.1 in
    let is : c.from_residual.result ≡ Err c.in_err-write_scheduler.field-0.0 = rw (p.1, p.2) refl in
    fails _ is c.in_err-write_scheduler.ensures (begins _ _ _ _ _)

pub returns-in_err-write_instants : goal.returns-in_err-write_instants
returns-in_err-write_instants g c =
    let p = err_from_is_err_and c.from_residual-in_err-write_instants.result c.from_residual-in_err-write_instants.ensures.1 in
    let is : c.from_residual-in_err-write_instants.result ≡ Err c.in_err-write_instants.field-0.0 = rw (p.1, p.2) refl in
    fails _ is c.in_err-write_instants.ensures (rest_is (text_of-append _ _) (goes_on _ c.in_ok-write_scheduler.ensures (begins _ _ _ _ _)))

pub returns : goal.returns
returns g c = closes c.write_final.ensures (goes_on _ c.in_ok-write_instants.ensures (rest_is (text_of-append _ _) (goes_on _ c.in_ok-write_scheduler.ensures (begins _ _ _ _ _))))
