use Rattle.std.proofs.Common.{◌∙◌, ◌++◌, ◌∷◌, [], ap, sym}
use Rattle.std.proofs.lemmas.Fmt.{decimal_digit}
use Rattle.loft_value_text.proofs.line.LineBuffer.number.Goals as goal

pub returns-then-number-lt10 : goal.returns-then-number-lt10
returns-then-number-lt10 c = λ whole.
    let appended = c.byte.ensures whole in
    let digit = sym (decimal_digit c.args.number c.if-number-lt10.true) in
    (appended.0, appended.1 ∙ (ap (λ d. c.args.self.now.text.items ++ d ∷ []) c.digit.ensures ∙ ap (λ digits. c.args.self.now.text.items ++ digits) digit))
