use Rattle.std.proofs.Common.{arith}
use Rattle.loft_report_reader.proofs.DigitsThere.{sign_only}
use Rattle.loft_report_reader.proofs.there.sign_there.Goals as goal

pub returns-then-c-b-clause-there : goal.returns-then-c-b-clause-there
returns-then-c-b-clause-there c = λ some. sign_only c.args.b c.args.bytes.now c.in-len2-up.len_at_least (omega (arith, c.if-c-b.true))
