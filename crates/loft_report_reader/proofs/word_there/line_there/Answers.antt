use Rattle.std.proofs.Common.{sym, ◌∙◌}
use Rattle.loft_report_reader.proofs.WordsThere.{at_there, print_there}
use Rattle.loft_report_reader.proofs.word_there.line_there.Goals as goal

pub returns-then-begins_at-clause-there : goal.returns-then-begins_at-clause-there
returns-then-begins_at-clause-there c = λ some. at_there c.args.stage c.args.bytes.now (sym c.may_stand.ensures ∙ c.if-may_stand.true) (c.begins_at.ensures c.if-begins_at.true)

pub returns-then-begins_print-clause-there : goal.returns-then-begins_print-clause-there
returns-then-begins_print-clause-there c = λ some. print_there c.args.stage c.args.bytes.now (sym c.may_print.ensures ∙ c.if-may_print.true) (c.begins_print.ensures c.if-begins_print.true)
