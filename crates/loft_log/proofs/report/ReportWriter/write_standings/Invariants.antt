use Rattle.std.proofs.Common.{drop, map}
use Rattle.loft_orders.specs.Lines.{text_of}
use Rattle.loft_history.specs.Report.{standing_line}
use Rattle.loft_base.proofs.WritesLemmas.{Going}
use Rattle.loft_log.proofs.report.ReportWriter.write_standings.Given as goal

-- the threads from here on are left
abbrev pub invariant-loop-standing : goal.invariant-loop-standing
invariant-loop-standing g l =
    Going (g.S.Sink.written l.initial.sink) (g.S.Sink.written l.sink) (g.S.Sink.faults l.initial.sink) (g.S.Sink.faults l.sink) (g.S.Sink.room l.initial.sink) (g.S.Sink.room l.sink) (g.S.Sink.by_lines l.initial.sink) (g.S.Sink.by_lines l.sink)
    (text_of (map (standing_line l.self.heads.now) (drop l.standing-index l.linked)))
    (text_of (map (standing_line l.self.heads.now) l.linked))
