use Rattle.std.proofs.Common.{sym, ◌∙◌}
use Rattle.loft_order_lines.proofs.Numbers.{is_text, same_text, decimal_utf8, number_read}
use Rattle.loft_order_lines.proofs.number.number_of.Goals as goal

pub returns-in_err-ok-clause-read : goal.returns-in_err-ok-clause-read
returns-in_err-ok-clause-read c n small same =
    absurd (is_text _ _ c.args.digits.now c.from_utf8.result (decimal_utf8 n c.args.digits.now small same) c.from_utf8.ensures.cases (sym c.ok.ensures.value ∙ c.in_err-ok.was))

pub returns-clause-read : goal.returns-clause-read
returns-clause-read c n small same =
    let bytes = same_text (λ s. s.now) _ c.args.digits.now c.from_utf8.result c.in_ok-ok.field-0 c.from_utf8.ensures.cases (sym c.ok.ensures.value ∙ c.in_ok-ok.was) in
    number_read n c.in_ok-ok.field-0.now c.parse.result c.ok-2.result small (bytes ∙ same) c.parse.ensures.value.0 c.ok-2.ensures.value
