use Rattle.std.proofs.Common.{◌++◌, arith}
use Rattle.loft_report_shape.specs.Last.{on_last}
use Rattle.loft_report_draft.specs.Drafts.{report_of}
use Rattle.loft_report_draft.proofs.LastLemmas.{block_set, no_block_set}
use Rattle.loft_report_draft.proofs.draft.Draft.keep_in_instant.Goals as goal

pub returns-then-count-gt0-clause-report : goal.returns-then-count-gt0-clause-report
returns-then-count-gt0-clause-report c = λ whole. block_set (λ b. record b { instants = on_last (λ lines. lines ++ c.args.word.now) b.instants }) (report_of c.args.self.now) c.len-count.result c.index_mut.result.now c.append_to_instant.new.block c.len-count.ensures c.index_mut.ensures.value (c.append_to_instant.ensures.block whole)

pub returns-else-count-gt0-clause-report : goal.returns-else-count-gt0-clause-report
returns-else-count-gt0-clause-report c = λ _. no_block_set (λ b. record b { instants = on_last (λ lines. lines ++ c.args.word.now) b.instants }) (report_of c.args.self.now) c.len-count.result c.len-count.ensures (λ some. omega (arith, c.if-count-gt0.false, some))
