use Rattle.std.proofs.Common.{refl}
use Rattle.loft_report_reader.proofs.AheadLemmas.{then}
use Rattle.loft_report_reader.proofs.ahead.Ahead.thread.Goals as goal

pub returns-clause-goes : goal.returns-clause-goes
returns-clause-goes c = λ fits ps.
    let f7 = c.frames.ensures.before fits in
    let f6 = c.wait.ensures.before f7 in
    let f5 = c.sign-3.ensures.before f6 in
    let f4 = c.number-2.ensures.before f5 in
    let f3 = c.sign-2.ensures.before f4 in
    let f2 = c.number.ensures.before f3 in
    let f1 = c.sign.ensures.before f2 in
    then (c.id.ensures.goes f1 _)
    (then (c.sign.ensures.goes f2 _)
    (then (c.number.ensures.goes f3 (λ w. (refl, λ told. refl)) _)
    (then (c.sign-2.ensures.goes f4 _)
    (then (c.number-2.ensures.goes f5 (λ w. (refl, λ told. refl)) _)
    (then (c.sign-3.ensures.goes f6 _)
    (then (c.wait.ensures.goes f7 _)
    (c.frames.ensures.goes fits ps)))))))
