use Rattle.std.proofs.Common.{drop}
use Rattle.loft_orders.specs.Lines.{text_of, batch_lines}
use Rattle.loft_instant_text.specs.Ends.{AreLeft}
use Rattle.loft_instant_text.proofs.Appended.{Still}
use Rattle.loft_instant_text.proofs.instant.push_batch.Given as goal

-- the orders from here on are still to come, and their ends are left
abbrev pub invariant-loop-index : goal.invariant-loop-index
invariant-loop-index g l =
    Still g.W.TextWriter.is_whole g.W.TextWriter.kept g.W.TextWriter.extended l.initial.line l.line
    (text_of (batch_lines l.heads l.stopped l.index (drop l.index l.batch) (drop l.index l.marks)))
    (text_of (batch_lines l.heads l.stopped 0 l.batch l.marks))
    × AreLeft l.in_order l.stopped l.index l.left
