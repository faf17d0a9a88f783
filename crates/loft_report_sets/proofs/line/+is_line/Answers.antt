use Rattle.std.proofs.Common.{arith}
use Rattle.loft_report_sets.proofs.Digits.{line_more}
use Rattle.loft_report_sets.proofs.line.+is_line.Goals as goal

pub returns-then-is_printed : goal.returns-then-is_printed
returns-then-is_printed t c = line_more c.args.n c.args.bytes.now c.is_line.result (omega arith) c.if-n-eq0.false (c.if-is_last_feed.ensures) (c.if-is_printed.ensures) c.is_line.ensures
