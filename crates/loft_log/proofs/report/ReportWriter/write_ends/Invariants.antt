use Rattle.std.proofs.Common.{drop}
use Rattle.loft_orders.specs.Lines.{text_of, ends_at}
use Rattle.loft_base.proofs.WritesLemmas.{Going}
use Rattle.loft_log.proofs.report.ReportWriter.write_ends.Given as goal

-- the ends from here on are left
abbrev pub invariant-loop-ended : goal.invariant-loop-ended
invariant-loop-ended g l =
    Going (g.S.Sink.written l.initial.sink) (g.S.Sink.written l.sink) (g.S.Sink.faults l.initial.sink) (g.S.Sink.faults l.sink) (g.S.Sink.room l.initial.sink) (g.S.Sink.room l.sink) (g.S.Sink.by_lines l.initial.sink) (g.S.Sink.by_lines l.sink)
    (text_of (ends_at l.self.heads.now l.index (drop l.ended-index l.ends)))
    (text_of (ends_at l.self.heads.now l.index l.ends))
