use Rattle.std.proofs.Common.{◌≡◌, Err, refl, sym, ◌∙◌}
use Rattle.std.proofs.lemmas.Result.{err_from_is_err_and}
use Rattle.loft_base.proofs.WritesLemmas.{begins, goes_on, fails, closes}
use Rattle.std.proofs.lemmas.List.{length-map}
use Rattle.loft_history.specs.History.{choice_of}
use Rattle.loft_log.proofs.report.ReportWriter.write_head.Goals as goal

pub returns-in_err-write_text : goal.returns-in_err-write_text
returns-in_err-write_text g c =
    let p = err_from_is_err_and c.from_residual.result c.from_residual.ensures.1 in
    let is : c.from_residual.result ≡ Err c.in_err-write_text.field-0.0 = rw (p.1, p.2) refl in
    fails _ is c.in_err-write_text.ensures (begins _ _ _ _ _)

pub returns-in_err-write_number : goal.returns-in_err-write_number
returns-in_err-write_number g c =
    let p = err_from_is_err_and c.from_residual-in_err-write_number.result c.from_residual-in_err-write_number.ensures.1 in
    let is : c.from_residual-in_err-write_number.result ≡ Err c.in_err-write_number.field-0.0 = rw (p.1, p.2) refl in
    fails _ is c.in_err-write_number.ensures (goes_on _ c.in_ok-write_text.ensures (begins _ _ _ _ _))

pub returns-in_err-write_number-2 : goal.returns-in_err-write_number-2
returns-in_err-write_number-2 g c =
    let p = err_from_is_err_and c.from_residual-in_err-write_number-2.result c.from_residual-in_err-write_number-2.ensures.1 in
    let is : c.from_residual-in_err-write_number-2.result ≡ Err c.in_err-write_number-2.field-0.0 = rw (p.1, p.2) refl in
    fails _ is c.in_err-write_number-2.ensures (goes_on _ c.in_ok-write_number.ensures (goes_on _ c.in_ok-write_text.ensures (begins _ _ _ _ _)))

pub returns-in_err-write_number-3 : goal.returns-in_err-write_number-3
returns-in_err-write_number-3 g c =
    let p = err_from_is_err_and c.from_residual-in_err-write_number-3.result c.from_residual-in_err-write_number-3.ensures.1 in
    let is : c.from_residual-in_err-write_number-3.result ≡ Err c.in_err-write_number-3.field-0.0 = rw (p.1, p.2) refl in
    fails _ is c.in_err-write_number-3.ensures (goes_on _ c.in_ok-write_number-2.ensures (goes_on _ c.in_ok-write_number.ensures (goes_on _ c.in_ok-write_text.ensures (begins _ _ _ _ _))))

pub returns-in_err-write_number-4 : goal.returns-in_err-write_number-4
returns-in_err-write_number-4 g c =
    let p = err_from_is_err_and c.from_residual-in_err-write_number-4.result c.from_residual-in_err-write_number-4.ensures.1 in
    let is : c.from_residual-in_err-write_number-4.result ≡ Err c.in_err-write_number-4.field-0.0 = rw (p.1, p.2) refl in
    fails _ is (rw c.from.ensures at c.in_err-write_number-4.ensures) (goes_on _ c.in_ok-write_number-3.ensures (goes_on _ c.in_ok-write_number-2.ensures (goes_on _ c.in_ok-write_number.ensures (goes_on _ c.in_ok-write_text.ensures (begins _ _ _ _ _)))))

pub returns-in_err-write_number-5 : goal.returns-in_err-write_number-5
returns-in_err-write_number-5 g c =
    let p = err_from_is_err_and c.from_residual-in_err-write_number-5.result c.from_residual-in_err-write_number-5.ensures.1 in
    let is : c.from_residual-in_err-write_number-5.result ≡ Err c.in_err-write_number-5.field-0.0 = rw (p.1, p.2) refl in
    fails _ is (rw (c.length.ensures.length ∙ sym (length-map c.args.world.now.history choice_of)) at c.in_err-write_number-5.ensures) (goes_on _ (rw c.from.ensures at c.in_ok-write_number-4.ensures) (goes_on _ c.in_ok-write_number-3.ensures (goes_on _ c.in_ok-write_number-2.ensures (goes_on _ c.in_ok-write_number.ensures (goes_on _ c.in_ok-write_text.ensures (begins _ _ _ _ _))))))

pub returns : goal.returns
returns g c = closes c.write_choices.ensures (goes_on _ (rw (c.length.ensures.length ∙ sym (length-map c.args.world.now.history choice_of)) at c.in_ok-write_number-5.ensures) (goes_on _ (rw c.from.ensures at c.in_ok-write_number-4.ensures) (goes_on _ c.in_ok-write_number-3.ensures (goes_on _ c.in_ok-write_number-2.ensures (goes_on _ c.in_ok-write_number.ensures (goes_on _ c.in_ok-write_text.ensures (begins _ _ _ _ _)))))))
