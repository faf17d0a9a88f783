use Rattle.std.proofs.Common.{arith}
use Rattle.loft_instant_text.proofs.Appended.{still_done}
use Rattle.loft_instant_text.proofs.InstantLemmas.{batch-end}
use Rattle.loft_instant_text.proofs.instant.push_batch.Goals as goal

pub returns : goal.returns
returns g c =
    still_done g.W.TextWriter.is_whole g.W.TextWriter.kept g.W.TextWriter.extended g.met.W.TextWriter.nothing c.args.line.now c.loop-index.line _ _
    (batch-end c.args.heads.now c.args.stopped.now c.args.batch.now c.args.marks.now c.loop-index.index (omega (arith, c.min-index-end.ensures, c.loop-index-test.false))) c.loop-index.invariant.0
