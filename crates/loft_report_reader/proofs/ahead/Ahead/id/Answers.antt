use Rattle.std.proofs.Common.{refl}
use Rattle.loft_report_reader.proofs.AheadLemmas.{then}
use Rattle.loft_report_reader.proofs.ahead.Ahead.id.Goals as goal

pub returns-clause-goes : goal.returns-clause-goes
returns-clause-goes c = λ fits ps.
    let f2 = c.number.ensures.before fits in
    let f1 = c.sign.ensures.before f2 in
    then (c.plain.ensures.goes f1 (λ w. (refl, λ told. refl)) _) (then (c.sign.ensures.goes f2 _) (c.number.ensures.goes fits (λ w. (refl, λ told. refl)) ps))
