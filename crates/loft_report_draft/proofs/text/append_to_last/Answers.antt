use Rattle.std.proofs.Common.{◌++◌, arith}
use Rattle.loft_report_draft.proofs.LastLemmas.{last_set, none_set}
use Rattle.loft_report_draft.proofs.text.append_to_last.Goals as goal

pub returns-then-count-gt0-clause-texts : goal.returns-then-count-gt0-clause-texts
returns-then-count-gt0-clause-texts c = λ whole. last_set (λ text. text ++ c.args.bytes.now) c.args.texts.now c.len-count.result c.index_mut.result.now c.append.new.text c.len-count.ensures c.index_mut.ensures.value (c.append.ensures.text whole)

pub returns-else-count-gt0-clause-texts : goal.returns-else-count-gt0-clause-texts
returns-else-count-gt0-clause-texts c = λ _. none_set (λ text. text ++ c.args.bytes.now) c.args.texts.now c.len-count.result c.len-count.ensures (λ some. omega (arith, c.if-count-gt0.false, some))
