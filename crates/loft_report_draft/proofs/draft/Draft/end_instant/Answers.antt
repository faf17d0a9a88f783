use Rattle.std.proofs.Common.{ap}
use Rattle.loft_report_shape.specs.Told.{Report}
use Rattle.loft_report_draft.specs.Drafts.{report_of, told_of}
use Rattle.loft_report_draft.proofs.LastLemmas.{block_same}
use Rattle.loft_report_draft.proofs.draft.Draft.end_instant.Goals as goal

pub returns-then-count-gt0 : goal.returns-then-count-gt0
returns-then-count-gt0 c = ap (λ (r : Report). record (told_of c.args.self.now) { report = r }) (block_same (report_of c.args.self.now) _ c.index_mut.result.now c.shrink_instant.new.block c.index_mut.ensures.value c.shrink_instant.ensures)
