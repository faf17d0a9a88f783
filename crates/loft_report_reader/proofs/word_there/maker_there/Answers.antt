use Rattle.loft_report_reader.proofs.WordsThere.{start_there}
use Rattle.loft_report_reader.proofs.word_there.maker_there.Goals as goal

pub returns-then-begins_start-clause-there : goal.returns-then-begins_start-clause-there
returns-then-begins_start-clause-there c = λ some. start_there c.args.bytes.now (c.begins_start.ensures c.if-begins_start.true)
