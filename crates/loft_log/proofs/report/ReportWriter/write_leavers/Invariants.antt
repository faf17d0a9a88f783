use Rattle.std.proofs.Common.{drop}
use Rattle.loft_orders.specs.Lines.{text_of, leave_lines}
use Rattle.loft_base.proofs.WritesLemmas.{Going}
use Rattle.loft_log.proofs.report.ReportWriter.write_leavers.Given as goal

-- the orders from here on are left
abbrev pub invariant-loop-sent : goal.invariant-loop-sent
invariant-loop-sent g l =
    Going (g.S.Sink.written l.initial.sink) (g.S.Sink.written l.sink) (g.S.Sink.faults l.initial.sink) (g.S.Sink.faults l.sink) (g.S.Sink.room l.initial.sink) (g.S.Sink.room l.sink) (g.S.Sink.by_lines l.initial.sink) (g.S.Sink.by_lines l.sink)
    (text_of (leave_lines l.self.heads.now (drop l.sent-index l.sents)))
    (text_of (leave_lines l.self.heads.now l.sents))
