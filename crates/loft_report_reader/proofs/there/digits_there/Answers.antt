use Rattle.std.proofs.Common.{arith}
use Rattle.loft_report_reader.proofs.DigitsThere.{digits_there}
use Rattle.loft_report_reader.proofs.ValuesThere.{first_digit}
use Rattle.loft_report_reader.proofs.there.digits_there.Goals as goal

pub returns-then-are_number-clause-there : goal.returns-then-are_number-clause-there
returns-then-are_number-clause-there c = λ some. digits_there c.args.kind c.args.bytes.now c.digit_bytes-n.result c.digit_bytes-n.ensures some c.if-n-bytes.true (omega (arith, c.if-n-lt-MAX_DIGITS.true)) (c.are_number.ensures c.if-are_number.true)

pub returns-then-are_number-clause-digit : goal.returns-then-are_number-clause-digit
returns-then-are_number-clause-digit c = λ some. first_digit c.args.bytes.now c.digit_bytes-n.result c.digit_bytes-n.ensures some c.if-n-bytes.true
