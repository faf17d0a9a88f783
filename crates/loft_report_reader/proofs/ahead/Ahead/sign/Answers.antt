use Rattle.std.proofs.Common.{refl}
use Rattle.loft_report_shape.specs.declared.part.Part.TheVariants.{Sign}
use Rattle.loft_report_reader.proofs.AheadLemmas.{goes_there}
use Rattle.loft_report_reader.proofs.ahead.Ahead.sign.Goals as goal

pub returns-clause-goes : goal.returns-clause-goes
returns-clause-goes c = λ fits ps. goes_there (Sign c.args.b) ps ps c.args.self.now.rest.now c.pass-word.new.self.rest.now c.pass-word.result.now c.sign_there-n.result (c.sign_there-n.ensures.there (c.pass-word.ensures.some fits)) c.pass-word.ensures.rest c.pass-word.ensures.word (λ told. refl) refl
