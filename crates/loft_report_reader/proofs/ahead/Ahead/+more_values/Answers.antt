use Rattle.std.proofs.Common.{refl}
use Rattle.loft_report_reader.proofs.AheadLemmas.{then, goes_to, last_value, next_value}
use Rattle.loft_report_reader.proofs.ahead.Ahead.+more_values.Goals as goal

pub returns-then-not-head_is-clause-goes : goal.returns-then-not-head_is-clause-goes
returns-then-not-head_is-clause-goes t c = λ fits ps. goes_to (last_value c.part-word.result.now ps c.if-not-head_is.ensures) (c.part-word.ensures.goes fits (λ told. refl) ps)

pub returns-clause-goes : goal.returns-clause-goes
returns-clause-goes t c = λ fits ps.
    let f3 = c.more_values.ensures.before fits in
    let f2 = c.end_value.ensures.before f3 in
    let f1 = c.part-value.ensures.before f2 in
    then (goes_to (next_value c.part-word.result.now ps c.if-not-head_is.ensures) (c.part-word.ensures.goes f1 (λ told. refl) ps))
    (then (c.part-value.ensures.goes f2 (λ told. refl) _) (then (c.end_value.ensures.goes f3 _) (c.more_values.ensures.goes fits ps)))
