use Rattle.loft_orders.specs.Lines.{text_of}
use Rattle.loft_base.proofs.WritesLemmas.{Going}
use Rattle.loft_log.specs.WorldReport.{world_left}
use Rattle.loft_log.proofs.ReportLemmas.{left_after}
use Rattle.loft_log.proofs.report.ReportWriter.write_waiting.Given as goal

-- what waits for the schedulers from this one on is left
abbrev pub invariant-loop-index : goal.invariant-loop-index
invariant-loop-index g l =
    Going (g.S.Sink.written l.initial.sink) (g.S.Sink.written l.sink) (g.S.Sink.faults l.initial.sink) (g.S.Sink.faults l.sink) (g.S.Sink.room l.initial.sink) (g.S.Sink.room l.sink) (g.S.Sink.by_lines l.initial.sink) (g.S.Sink.by_lines l.sink)
    (text_of (left_after l.self.heads.now l.world.history l.index))
    (text_of (world_left l.self.heads.now l.world.history))
