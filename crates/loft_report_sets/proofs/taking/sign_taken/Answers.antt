use Rattle.std.proofs.Common.{arith}
use Rattle.loft_report_sets.proofs.TakenLemmas.{sign_empty, sign_there, sign_other}
use Rattle.loft_report_sets.proofs.taking.sign_taken.Goals as goal

pub returns-in-empty : goal.returns-in-empty
returns-in-empty c = sign_empty c.args.b c.args.bytes.now (omega (arith, c.in-empty.len_below))

pub returns-then-c-b : goal.returns-then-c-b
returns-then-c-b c = sign_there c.args.b c.args.bytes.now c.in-len1-up.len_at_least (omega (arith, c.if-c-b.true))

pub returns-else-c-b : goal.returns-else-c-b
returns-else-c-b c = sign_other c.args.b c.args.bytes.now c.in-len1-up.len_at_least (λ e. omega (arith, c.if-c-b.false, e))
