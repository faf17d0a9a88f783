use Rattle.std.proofs.Common.{drop}
use Rattle.loft_orders.specs.Lines.{text_of}
use Rattle.loft_history.specs.Report.{instants_lines}
use Rattle.loft_history.specs.History.{log}
use Rattle.loft_base.proofs.WritesLemmas.{Going}
use Rattle.loft_log.proofs.report.ReportWriter.write_instants.Given as goal

-- the instants of the entries from here on are left, with these notes
abbrev pub invariant-loop-index : goal.invariant-loop-index
invariant-loop-index g l =
    Going (g.S.Sink.written l.initial.sink) (g.S.Sink.written l.sink) (g.S.Sink.faults l.initial.sink) (g.S.Sink.faults l.sink) (g.S.Sink.room l.initial.sink) (g.S.Sink.room l.sink) (g.S.Sink.by_lines l.initial.sink) (g.S.Sink.by_lines l.sink)
    (text_of (instants_lines l.self.heads.now (log l.s (drop l.index l.world.history)) l.left))
    (text_of (instants_lines l.self.heads.now (log l.s l.world.history) l.notes))
