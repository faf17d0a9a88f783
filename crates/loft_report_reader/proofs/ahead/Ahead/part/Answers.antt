use Rattle.std.proofs.Common.{refl}
use Rattle.loft_report_reader.proofs.AheadLemmas.{goes_there}
use Rattle.loft_report_reader.proofs.ahead.Ahead.part.Goals as goal

pub returns-clause-goes : goal.returns-clause-goes
returns-clause-goes c = λ fits kept ps. goes_there c.args.p ps _ c.args.self.now.rest.now c.pass.new.self.rest.now c.pass.result.now c.soon_there-n.result (c.soon_there-n.ensures.there (c.pass.ensures.some fits)) c.pass.ensures.rest c.pass.ensures.word kept refl
