use Rattle.std.proofs.Common.{refl}
use Rattle.loft_report_reader.proofs.AheadLemmas.{then}
use Rattle.loft_report_reader.proofs.ahead.Ahead.frame.Goals as goal

pub returns-clause-goes : goal.returns-clause-goes
returns-clause-goes c = λ fits ps.
    let f6 = c.values.ensures.before fits in
    let f5 = c.sign-3.ensures.before f6 in
    let f4 = c.counts.ensures.before f5 in
    let f3 = c.sign-2.ensures.before f4 in
    let f2 = c.number.ensures.before f3 in
    let f1 = c.sign.ensures.before f2 in
    then (c.plain.ensures.goes f1 (λ w. (refl, λ told. refl)) _)
    (then (c.sign.ensures.goes f2 _)
    (then (c.number.ensures.goes f3 (λ w. (refl, λ told. refl)) _)
    (then (c.sign-2.ensures.goes f4 _)
    (then (c.counts.ensures.goes f5 _)
    (then (c.sign-3.ensures.goes f6 _)
    (c.values.ensures.goes fits ps))))))
