use Rattle.std.proofs.Common.{◌≡◌, Some}
use Rattle.loft_report_shape.specs.Word.{word_of}
use Rattle.loft_report_shape.specs.declared.word.Word.TheVariants as word
use Rattle.loft_report_reader.proofs.AheadLemmas.{then, goes_to, at_kept, at_parts, print_kept, print_parts}
use Rattle.loft_report_reader.proofs.ahead.Ahead.line.Goals as goal

pub returns-in-Some-At-clause-goes : goal.returns-in-Some-At-clause-goes
returns-in-Some-At-clause-goes c = λ fits ps.
    let w = c.part-word.result.now in
    let a = c.word_soon.ensures in
    let b = c.in-Some-At.is in
    let d = c.in-Some-At.field-0-is in
    let e : word_of c.part-word.result.now ≡ Some word.At = cc in
    let f2 = c.thread.ensures.before fits in
    let f1 = c.sign.ensures.before f2 in
    then (goes_to (at_parts c.args.stage w ps e) (c.part-word.ensures.goes f1 (at_kept c.args.stage w e) ps))
    (then (c.sign.ensures.goes f2 _) (c.thread.ensures.goes fits _))

pub returns-in-Some-Print-clause-goes : goal.returns-in-Some-Print-clause-goes
returns-in-Some-Print-clause-goes c = λ fits ps.
    let w = c.part-word.result.now in
    let a = c.word_soon.ensures in
    let b = c.in-Some-Print.is in
    let d = c.in-Some-Print.field-0-is in
    let e : word_of c.part-word.result.now ≡ Some word.Print = cc in
    let f2 = c.print.ensures.before fits in
    let f1 = c.sign-in-Some-Print.ensures.before f2 in
    then (goes_to (print_parts c.args.stage w ps e) (c.part-word.ensures.goes f1 (print_kept c.args.stage w e) ps))
    (then (c.sign-in-Some-Print.ensures.goes f2 _) (c.print.ensures.goes fits _))
