use Rattle.std.proofs.Common.{arith}
use Rattle.loft_report_reader.proofs.ValuesThere.{first_of_two, second_of_two}
use Rattle.loft_report_reader.proofs.there.either_there.Goals as goal

pub returns-then-c-a-clause-there : goal.returns-then-c-a-clause-there
returns-then-c-a-clause-there c = λ some. first_of_two c.args.a c.args.b c.args.bytes.now c.in-len2-up.len_at_least (omega (arith, c.if-c-a.true))

pub returns-then-c-b-clause-there : goal.returns-then-c-b-clause-there
returns-then-c-b-clause-there c = λ some. second_of_two c.args.a c.args.b c.args.bytes.now c.in-len2-up.len_at_least (omega (arith, c.if-c-b.true))
