use Rattle.std.proofs.Common.{drop, map}
use Rattle.loft_orders.specs.Lines.{text_of}
use Rattle.loft_history.specs.Report.{choice_line}
use Rattle.loft_history.specs.History.{choice_of}
use Rattle.loft_base.proofs.WritesLemmas.{Going}
use Rattle.loft_log.proofs.report.ReportWriter.write_choices.Given as goal

-- the choices of the entries from here on are left
abbrev pub invariant-loop-index : goal.invariant-loop-index
invariant-loop-index g l =
    Going (g.S.Sink.written l.initial.sink) (g.S.Sink.written l.sink) (g.S.Sink.faults l.initial.sink) (g.S.Sink.faults l.sink) (g.S.Sink.room l.initial.sink) (g.S.Sink.room l.sink) (g.S.Sink.by_lines l.initial.sink) (g.S.Sink.by_lines l.sink)
    (text_of (map (choice_line l.self.heads.now) (map choice_of (drop l.index l.world.history))))
    (text_of (map (choice_line l.self.heads.now) (map choice_of l.world.history)))
