use Rattle.std.proofs.Common.{◌∙◌, ◌++◌, ◌∷◌, [], ◌+◌, ◌%◌, ◌/◌, ap, sym, arith, append_assoc}
use Rattle.std.specs.Fmt.{decimal}
use Rattle.std.proofs.lemmas.Fmt.{decimal_digit}
use Rattle.loft_value_text.proofs.DigitLemmas.{decimal_pair, decimal_pairs}
use Rattle.loft_value_text.proofs.line.+push_digits.Goals as goal

pub returns-then-number-lt10-clause-items : goal.returns-then-number-lt10-clause-items
returns-then-number-lt10-clause-items t c =
    let digit = sym (decimal_digit c.args.number c.if-number-lt10.true) in
    c.push_reserved.ensures.items ∙ (ap (λ d. c.args.text.now.items ++ d ∷ []) c.digit.ensures ∙ ap (λ digits. c.args.text.now.items ++ digits) digit)

pub returns-then-number-lt100-clause-items : goal.returns-then-number-lt100-clause-items
returns-then-number-lt100-clause-items t c =
    let digits = sym (decimal_pair c.args.number (omega (arith, c.if-number-lt10.false)) c.if-number-lt100.true) in
    c.push_two_digits.ensures.items ∙ ap (λ digits. c.args.text.now.items ++ digits) digits

pub returns-else-number-lt100-clause-items : goal.returns-else-number-lt100-clause-items
returns-else-number-lt100-clause-items t c =
    let last = (48 + c.args.number % 100 / 10) ∷ (48 + c.args.number % 100 % 10) ∷ [] in
    let digits = sym (decimal_pairs c.args.number (omega (arith, c.if-number-lt100.false)) (omega (arith, c.ranges.number))) in
    c.push_two_digits-else-number-lt100.ensures.items ∙ (ap (λ line. line ++ last) c.push_digits.ensures.items ∙ (append_assoc c.args.text.now.items (decimal (c.args.number / 100)) last ∙ ap (λ digits. c.args.text.now.items ++ digits) digits))
