use Rattle.loft_report_reader.proofs.ValuesThere.{first_value_digits}
use Rattle.loft_report_reader.proofs.there.first_value_there.Goals as goal

pub returns-then-n-gt0-clause-there : goal.returns-then-n-gt0-clause-there
returns-then-n-gt0-clause-there c = λ some. first_value_digits c.args.bytes.now c.digits_there-n.result (c.digits_there-n.ensures.there some) (c.digits_there-n.ensures.digit some)
