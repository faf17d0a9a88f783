use Rattle.std.proofs.Common.{arith}
use Rattle.loft_lex.proofs.Numbers.{too_large}
use Rattle.loft_lex.proofs.front.value_of.Goals as goal

pub returns-then-value-digit : goal.returns-then-value-digit
returns-then-value-digit c = too_large c.loop-b.value c.loop-b.b-index c.args.digits.now (omega arith) (omega arith) c.loop-b.invariant.1
