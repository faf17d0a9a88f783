use Rattle.std.proofs.Common.{refl}
use Rattle.loft_report_reader.proofs.AheadLemmas.{then, goes_to, last_count, next_count}
use Rattle.loft_report_reader.proofs.ahead.Ahead.+more_counts.Goals as goal

pub returns-then-not-head_is-clause-goes : goal.returns-then-not-head_is-clause-goes
returns-then-not-head_is-clause-goes t c = λ fits ps. goes_to (last_count c.part-word.result.now ps c.if-not-head_is.ensures) (c.part-word.ensures.goes fits (λ told. refl) ps)

pub returns-clause-goes : goal.returns-clause-goes
returns-clause-goes t c = λ fits ps.
    let f2 = c.more_counts.ensures.before fits in
    let f1 = c.number.ensures.before f2 in
    then (goes_to (next_count c.part-word.result.now ps c.if-not-head_is.ensures) (c.part-word.ensures.goes f1 (λ told. refl) ps)) (then (c.number.ensures.goes f2 (λ w. (refl, λ told. refl)) _) (c.more_counts.ensures.goes fits ps))
