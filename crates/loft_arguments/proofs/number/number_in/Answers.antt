use Rattle.std.proofs.Common.{sym, ◌∙◌, arith}
use Rattle.loft_arguments.proofs.Texts.{parsed, refused, no_plus}
use Rattle.loft_arguments.proofs.number.number_in.Goals as goal

pub returns-in_err-number : goal.returns-in_err-number
returns-in_err-number c =
    let plain = no_plus c.args.word.now (c.if-starts_with.ensures.byte (omega arith) (omega arith) (λ w o is. is)) in
    c.from_residual.ensures ∙ refused c.args.most c.args.word.now c.parse.result c.parse.ensures.value.0 (omega arith) plain
    (sym c.ok.ensures.value ∙ c.in_err-number.was)

pub returns-then-number-most : goal.returns-then-number-most
returns-then-number-most c =
    let plain = no_plus c.args.word.now (c.if-starts_with.ensures.byte (omega arith) (omega arith) (λ w o is. is)) in
    parsed c.args.most c.in_ok-number.number c.args.word.now c.parse.result c.parse.ensures.value.0 plain
    (sym c.ok.ensures.value ∙ c.in_ok-number.was) (omega arith) (omega arith)
