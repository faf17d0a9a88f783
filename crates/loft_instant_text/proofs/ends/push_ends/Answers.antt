use Rattle.loft_instant_text.proofs.Appended.{appends_then}
use Rattle.loft_instant_text.proofs.EndLemmas.{text_of_next}
use Rattle.loft_instant_text.proofs.ends.push_ends.Goals as goal

pub loop-ended-preserved : goal.loop-ended-preserved
loop-ended-preserved g c =
    appends_then g.W.TextWriter.is_whole g.W.TextWriter.kept g.W.TextWriter.extended g.met.W.TextWriter.together c.args.line.now c.loop-ended.line c.push_end_at.new.line _ _ _
    (text_of_next c.args.heads.now c.args.index c.args.ends.now c.loop-ended.ended-index _ c.loop-ended-test.true) c.loop-ended.invariant c.push_end_at.ensures
