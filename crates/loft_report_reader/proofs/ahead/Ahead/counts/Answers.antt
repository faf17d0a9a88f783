use Rattle.std.proofs.Common.{refl}
use Rattle.loft_report_reader.proofs.AheadLemmas.{then, goes_to, no_count, some_count}
use Rattle.loft_report_reader.proofs.ahead.Ahead.counts.Goals as goal

pub returns-then-head_is-clause-goes : goal.returns-then-head_is-clause-goes
returns-then-head_is-clause-goes c = λ fits ps. goes_to (no_count c.part-word.result.now ps c.if-head_is.ensures) (c.part-word.ensures.goes fits (λ told. refl) ps)

pub returns-clause-goes : goal.returns-clause-goes
returns-clause-goes c = λ fits ps.
    then (goes_to (some_count c.part-word.result.now ps c.if-head_is.ensures) (c.part-word.ensures.goes (c.more_counts.ensures.before fits) (λ told. refl) ps)) (c.more_counts.ensures.goes fits ps)
