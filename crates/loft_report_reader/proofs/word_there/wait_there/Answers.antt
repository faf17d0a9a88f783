use Rattle.loft_report_reader.proofs.WordsThere.{await_there, coop_there}
use Rattle.loft_report_reader.proofs.word_there.wait_there.Goals as goal

pub returns-then-begins_coop-clause-there : goal.returns-then-begins_coop-clause-there
returns-then-begins_coop-clause-there c = λ some. coop_there c.args.bytes.now (c.begins_coop.ensures c.if-begins_coop.true)

pub returns-then-begins_await-clause-there : goal.returns-then-begins_await-clause-there
returns-then-begins_await-clause-there c = λ some. await_there c.args.bytes.now (c.begins_await.ensures c.if-begins_await.true)
