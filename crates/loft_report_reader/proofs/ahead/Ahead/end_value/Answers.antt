use Rattle.std.proofs.Common.{refl}
use Rattle.loft_report_reader.proofs.AheadLemmas.{then, nothing, from_parts, no_id, some_id}
use Rattle.loft_report_reader.proofs.ahead.Ahead.end_value.Goals as goal

pub returns-then-begins_number-clause-goes : goal.returns-then-begins_number-clause-goes
returns-then-begins_number-clause-goes c = λ fits ps. from_parts (no_id c.args.word.now ps c.if-begins_number.ensures) (nothing ps c.args.self.now.rest.now)

pub returns-clause-goes : goal.returns-clause-goes
returns-clause-goes c = λ fits ps.
    from_parts (some_id c.args.word.now ps c.if-begins_number.ensures) (then (c.sign.ensures.goes (c.number.ensures.before fits) _) (c.number.ensures.goes fits (λ w. (refl, λ told. refl)) ps))
