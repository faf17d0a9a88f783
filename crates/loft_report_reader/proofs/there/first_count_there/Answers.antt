use Rattle.loft_report_reader.proofs.ValuesThere.{no_counts}
use Rattle.loft_report_reader.proofs.there.first_count_there.Goals as goal

pub returns-then-sign_there-gt0-clause-there : goal.returns-then-sign_there-gt0-clause-there
returns-then-sign_there-gt0-clause-there c = λ some. no_counts c.args.bytes.now (c.sign_there.ensures.two c.if-sign_there-gt0.true) (c.sign_there.ensures.byte c.if-sign_there-gt0.true)
