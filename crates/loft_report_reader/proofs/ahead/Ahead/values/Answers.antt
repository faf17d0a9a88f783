use Rattle.std.proofs.Common.{refl}
use Rattle.loft_report_reader.proofs.AheadLemmas.{then, goes_to, no_value, some_value}
use Rattle.loft_report_reader.proofs.ahead.Ahead.values.Goals as goal

pub returns-then-head_is-clause-goes : goal.returns-then-head_is-clause-goes
returns-then-head_is-clause-goes c = λ fits ps. goes_to (no_value c.part-word.result.now ps c.if-head_is.ensures) (c.part-word.ensures.goes fits (λ told. refl) ps)

pub returns-clause-goes : goal.returns-clause-goes
returns-clause-goes c = λ fits ps.
    let f2 = c.more_values.ensures.before fits in
    let f1 = c.end_value.ensures.before f2 in
    then (goes_to (some_value c.part-word.result.now ps c.if-head_is.ensures) (c.part-word.ensures.goes f1 (λ told. refl) ps)) (then (c.end_value.ensures.goes f2 _) (c.more_values.ensures.goes fits ps))
