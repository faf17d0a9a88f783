use Rattle.std.proofs.Common.{arith, sym}
use Rattle.loft_report_reader.proofs.TextThere.{text_there}
use Rattle.loft_report_reader.proofs.text_there.text_there.Goals as goal

pub returns-then-all_printed-clause-there : goal.returns-then-all_printed-clause-there
returns-then-all_printed-clause-there c = λ some. text_there c.args.bytes.now c.in-Some.n c.in-Some.ensures.1 (omega (arith, c.if-n-le-MAX_PRINTED.true)) (omega (arith, c.if-n-bytes.true)) (sym c.if-all_printed.ensures)
