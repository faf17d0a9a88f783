use Rattle.std.proofs.Common.{◌≤◌, length, arith}
use Rattle.std.proofs.lemmas.Bool.{leb-true}
use Rattle.loft_report_reader.specs.Ahead.{few_digits}
use Rattle.loft_report_reader.proofs.FewDigits.{few_are_number}
use Rattle.loft_report_reader.proofs.there.are_number.Goals as goal

pub returns-then-digits-few_digits : goal.returns-then-digits-few_digits
returns-then-digits-few_digits c = λ small.
    let few : length c.args.digits.now ≤ few_digits c.args.kind = omega (arith, leb-true _ _ small, c.few_digits.ensures) in
    few_are_number c.args.kind c.args.digits.now c.requires (c.is_plain.ensures c.if-is_plain.true) few
