use Rattle.std.proofs.Common.{sym, ◌∙◌, ◌≡◌, arith}
use Rattle.loft_listing_line.proofs.Cutting.{is_text, same_text, number_read}
use Rattle.loft_listing_line.proofs.cut.number_in.Goals as goal

pub returns-in_err-ok-clause-found : goal.returns-in_err-ok-clause-found
returns-in_err-ok-clause-found c n small same =
    absurd (is_text _ _ n c.args.digits.now c.from_utf8.result small same c.from_utf8.ensures.cases (sym c.ok.ensures.value ∙ c.in_err-ok.was))

pub returns-in_err-number-clause-found : goal.returns-in_err-number-clause-found
returns-in_err-number-clause-found c n small same =
    let bytes = same_text (λ s. s.now) _ c.args.digits.now c.from_utf8.result c.in_ok-ok.field-0 c.from_utf8.ensures.cases (sym c.ok.ensures.value ∙ c.in_ok-ok.was) in
    let read = number_read n c.in_ok-ok.field-0.now c.parse.result c.ok-2.result small (bytes ∙ same) c.parse.ensures.value.0 c.ok-2.ensures.value in
    let none = c.in_err-number.was in
    absurd cc

pub returns-then-number-le-MAX_NUMBER-clause-found :
    goal.returns-then-number-le-MAX_NUMBER-clause-found
returns-then-number-le-MAX_NUMBER-clause-found c n small same =
    let bytes = same_text (λ s. s.now) _ c.args.digits.now c.from_utf8.result c.in_ok-ok.field-0 c.from_utf8.ensures.cases (sym c.ok.ensures.value ∙ c.in_ok-ok.was) in
    sym c.in_ok-number.was ∙ number_read n c.in_ok-ok.field-0.now c.parse.result c.ok-2.result small (bytes ∙ same) c.parse.ensures.value.0 c.ok-2.ensures.value

pub returns-else-number-le-MAX_NUMBER-clause-found :
    goal.returns-else-number-le-MAX_NUMBER-clause-found
returns-else-number-le-MAX_NUMBER-clause-found c n small same =
    let bytes = same_text (λ s. s.now) _ c.args.digits.now c.from_utf8.result c.in_ok-ok.field-0 c.from_utf8.ensures.cases (sym c.ok.ensures.value ∙ c.in_ok-ok.was) in
    let read = sym c.in_ok-number.was ∙ number_read n c.in_ok-ok.field-0.now c.parse.result c.ok-2.result small (bytes ∙ same) c.parse.ensures.value.0 c.ok-2.ensures.value in
    let is : c.in_ok-number.number ≡ n = cc (read) in
    absurd (omega (arith, is, small, c.if-number-le-MAX_NUMBER.false))
