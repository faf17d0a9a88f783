use Rattle.std.proofs.Common.{arith}
use Rattle.loft_report_sets.proofs.Digits.{too_large}
use Rattle.loft_report_sets.proofs.number.+value_within.Goals as goal

pub returns-then-digit-most : goal.returns-then-digit-most
returns-then-digit-most t c = too_large c.args.n c.args.bytes.now c.args.most (omega arith) (omega arith)

pub returns-then-n-most : goal.returns-then-n-most
returns-then-n-most t c = too_large c.args.n c.args.bytes.now c.args.most (omega arith) (omega arith)
