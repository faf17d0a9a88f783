use Rattle.loft_sense.specs.Heads.{shared_of}
use Rattle.loft_orders.specs.Lines.{text_of}
use Rattle.loft_history.specs.Report.{shared_lines}
use Rattle.loft_base.proofs.WritesLemmas.{Going}
use Rattle.loft_log.proofs.ReportLemmas.{shared_after}
use Rattle.loft_log.proofs.report.ReportWriter.write_shared.Given as goal

-- the values from here on are left, for the variables from here on
abbrev pub invariant-loop-head : goal.invariant-loop-head
invariant-loop-head g l =
    Going (g.S.Sink.written l.initial.sink) (g.S.Sink.written l.sink) (g.S.Sink.faults l.initial.sink) (g.S.Sink.faults l.sink) (g.S.Sink.room l.initial.sink) (g.S.Sink.room l.sink) (g.S.Sink.by_lines l.initial.sink) (g.S.Sink.by_lines l.sink)
    (text_of (shared_after l.self.heads.now l.s l.head-index l.left))
    (text_of (shared_lines l.self.heads.now (shared_of l.self.heads.now l.s) l.values))
