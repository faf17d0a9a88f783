use Rattle.std.proofs.Common.{drop, map}
use Rattle.loft_orders.specs.Lines.{text_of}
use Rattle.loft_history.specs.Report.{left_line}
use Rattle.loft_base.proofs.WritesLemmas.{Going}
use Rattle.loft_log.proofs.report.ReportWriter.write_left_orders.Given as goal

-- the orders from here on are left
abbrev pub invariant-loop-order : goal.invariant-loop-order
invariant-loop-order g l =
    Going (g.S.Sink.written l.initial.sink) (g.S.Sink.written l.sink) (g.S.Sink.faults l.initial.sink) (g.S.Sink.faults l.sink) (g.S.Sink.room l.initial.sink) (g.S.Sink.room l.sink) (g.S.Sink.by_lines l.initial.sink) (g.S.Sink.by_lines l.sink)
    (text_of (map (left_line l.self.heads.now l.s) (drop l.order-index l.orders)))
    (text_of (map (left_line l.self.heads.now l.s) l.orders))
