use Rattle.std.proofs.Common.{refl}
use Rattle.loft_report_reader.proofs.AheadLemmas.{then, goes_to, last_frame, next_frame}
use Rattle.loft_report_reader.proofs.ahead.Ahead.+frames.Goals as goal

pub returns-then-not-head_is-clause-goes : goal.returns-then-not-head_is-clause-goes
returns-then-not-head_is-clause-goes t c = λ fits ps. then (c.frame.ensures.goes (c.part-word.ensures.before fits) _) (goes_to (last_frame c.part-word.result.now ps c.if-not-head_is.ensures) (c.part-word.ensures.goes fits (λ told. refl) ps))

pub returns-clause-goes : goal.returns-clause-goes
returns-clause-goes t c = λ fits ps.
    let f2 = c.frames.ensures.before fits in
    let f1 = c.part-word.ensures.before f2 in
    then (c.frame.ensures.goes f1 _) (then (goes_to (next_frame c.part-word.result.now ps c.if-not-head_is.ensures) (c.part-word.ensures.goes f2 (λ told. refl) ps)) (c.frames.ensures.goes fits ps))
