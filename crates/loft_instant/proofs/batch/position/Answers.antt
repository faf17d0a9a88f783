use Rattle.std.proofs.Common.{◌∙◌, sym}
use Rattle.loft_instant.proofs.PositionLemmas.{found_here, not_here}
use Rattle.loft_instant.proofs.batch.position.Goals as goal

pub returns-then-same_thread : goal.returns-then-same_thread
returns-then-same_thread c = found_here c.args.thread c.args.linked.now c.loop-index.index c.index-linked-index.result c.loop-index-test.true c.index-linked-index.is c.loop-index.invariant (sym c.same_thread.ensures ∙ c.if-same_thread.true)

pub loop-index-preserved : goal.loop-index-preserved
loop-index-preserved c = not_here c.args.thread c.args.linked.now c.loop-index.index c.index-linked-index.result c.loop-index-test.true c.index-linked-index.is c.loop-index.invariant (sym c.same_thread.ensures ∙ c.if-same_thread.false)
