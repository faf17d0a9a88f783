use Rattle.std.proofs.Common.{◌∙◌, sym, ap}
use Rattle.loft_line.specs.Line.{runners_in, standings_in}
use Rattle.loft_line_engine.specs.Batches.{applied_of}
use Rattle.loft_line_engine.proofs.BatchLemmas.{on_ok, not_suspended}
use Rattle.loft_line_engine.proofs.batch.Batch.suspend.Goals as goal

pub returns-clause-applied : goal.returns-clause-applied
returns-clause-applied c =
    on_ok c.mark-2.result c.mark-2.ensures
    (λ is. ap applied_of is ∙ not_suspended c.args.thread c.args.suspended (applied_of c.args.self.now) (standings_in (runners_in c.suspend.new.self))
    (sym c.in_ok-suspend.ensures.found ∙ c.if-branch.false) c.in_ok-suspend.ensures.linked)
