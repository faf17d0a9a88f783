use Rattle.loft_report_reader.proofs.AheadLemmas.{goes_to, plain_after}
use Rattle.std.proofs.Common.{sym}
use Rattle.loft_report_reader.proofs.ahead.Ahead.plain.Goals as goal

pub returns-clause-goes : goal.returns-clause-goes
returns-clause-goes c = λ fits plain ps. let w = c.part-word.result.now in goes_to (sym (plain_after c.args.p w ps plain)) (c.part-word.ensures.goes fits (plain w).1 ps)
