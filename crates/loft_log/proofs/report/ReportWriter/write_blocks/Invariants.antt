use Rattle.loft_orders.specs.Lines.{text_of}
use Rattle.loft_history.specs.Report.{schedulers_from}
use Rattle.loft_base.proofs.WritesLemmas.{Going}
use Rattle.loft_log.specs.WorldReport.{world_blocks}
use Rattle.loft_log.proofs.ReportLemmas.{blocks_after}
use Rattle.loft_log.proofs.report.ReportWriter.write_blocks.Given as goal

-- the blocks from this scheduler on are left
abbrev pub invariant-loop-index : goal.invariant-loop-index
invariant-loop-index g l =
    Going (g.S.Sink.written l.initial.sink) (g.S.Sink.written l.sink) (g.S.Sink.faults l.initial.sink) (g.S.Sink.faults l.sink) (g.S.Sink.room l.initial.sink) (g.S.Sink.room l.sink) (g.S.Sink.by_lines l.initial.sink) (g.S.Sink.by_lines l.sink)
    (text_of (blocks_after l.self.heads.now l.world.history l.index l.notes l.finals))
    (text_of (world_blocks l.self.heads.now l.world.history (schedulers_from 0 l.self.heads.now.schedulers) l.notes l.finals))
