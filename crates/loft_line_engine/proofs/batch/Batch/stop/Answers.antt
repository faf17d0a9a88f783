use Rattle.std.proofs.Common.{◌∙◌, sym, ap}
use Rattle.loft_line.specs.Line.{runners_in, standings_in}
use Rattle.loft_line_engine.specs.Batches.{applied_of}
use Rattle.loft_line_engine.proofs.BatchLemmas.{on_ok, not_stopped}
use Rattle.loft_line_engine.proofs.batch.Batch.stop.Goals as goal

pub returns-clause-applied : goal.returns-clause-applied
returns-clause-applied c =
    on_ok c.mark.result c.mark.ensures
    (λ is. ap applied_of is ∙ not_stopped c.args.heads.now c.args.scheduler c.args.thread (applied_of c.args.self.now) (standings_in (runners_in c.stop.new.self))
    (sym c.stop.ensures.found ∙ c.if-stop.false) c.stop.ensures.linked)
