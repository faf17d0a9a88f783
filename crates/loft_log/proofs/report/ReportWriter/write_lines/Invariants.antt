use Rattle.std.proofs.Common.{drop, map}
use Rattle.loft_orders.specs.Lines.{text_of}
use Rattle.loft_base.proofs.WritesLemmas.{Going}
use Rattle.loft_log.proofs.report.ReportWriter.write_lines.Given as goal

-- the items from here on are left
abbrev pub invariant-loop-item : goal.invariant-loop-item
invariant-loop-item g l =
    Going (g.S.Sink.written l.initial.sink) (g.S.Sink.written l.sink) (g.S.Sink.faults l.initial.sink) (g.S.Sink.faults l.sink) (g.S.Sink.room l.initial.sink) (g.S.Sink.room l.sink) (g.S.Sink.by_lines l.initial.sink) (g.S.Sink.by_lines l.sink)
    (text_of (map (g.T.InOneLine.text l.self.heads.now) (drop l.item-index l.items)))
    (text_of (map (g.T.InOneLine.text l.self.heads.now) l.items))
