use Rattle.loft_report_shape.specs.declared.part.Part.TheVariants.{Number}
use Rattle.loft_report_reader.proofs.AheadLemmas.{goes_there, plain_after}
use Rattle.loft_report_reader.proofs.ahead.Ahead.number.Goals as goal

pub returns-clause-goes : goal.returns-clause-goes
returns-clause-goes c = λ fits plain ps. let w = c.pass-word.result.now in goes_there (Number c.args.kind) ps ps c.args.self.now.rest.now c.pass-word.new.self.rest.now w c.soon_there-n.result (c.soon_there-n.ensures.there (c.pass-word.ensures.some fits)) c.pass-word.ensures.rest c.pass-word.ensures.word (plain w).1 (plain_after (Number c.args.kind) w ps plain)
