use Rattle.loft_report_draft.proofs.LastLemmas.{set_same}
use Rattle.loft_report_draft.proofs.text.shrink_last.Goals as goal

pub returns-then-count-gt0 : goal.returns-then-count-gt0
returns-then-count-gt0 c = set_same c.args.texts.now _ c.index_mut.result.now c.shrink.new.text c.index_mut.ensures.value c.shrink.ensures
