use Rattle.std.proofs.Common.{drop}
use Rattle.loft_orders.specs.Lines.{text_of, batch_lines}
use Rattle.loft_instant_text.specs.Ends.{AreLeft}
use Rattle.loft_base.proofs.WritesLemmas.{Going}
use Rattle.loft_log.proofs.report.ReportWriter.write_batch.Given as goal

-- the orders from here on are left, and their ends
abbrev pub invariant-loop-index : goal.invariant-loop-index
invariant-loop-index g l =
    (Going (g.S.Sink.written l.initial.sink) (g.S.Sink.written l.sink) (g.S.Sink.faults l.initial.sink) (g.S.Sink.faults l.sink) (g.S.Sink.room l.initial.sink) (g.S.Sink.room l.sink) (g.S.Sink.by_lines l.initial.sink) (g.S.Sink.by_lines l.sink)
    (text_of (batch_lines l.self.heads.now l.stopped l.index (drop l.index l.batch) (drop l.index l.marks)))
    (text_of (batch_lines l.self.heads.now l.stopped 0 l.batch l.marks)))
    × AreLeft l.in_order l.stopped l.index l.left
