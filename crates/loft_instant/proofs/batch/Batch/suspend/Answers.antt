use Rattle.std.proofs.Common.{◌≡◌, List, refl, subst}
use Rattle.std.specs.Prelude.{OnOk}
use Rattle.loft_sense.specs.Apply.{Applied}
use Rattle.loft_passes.specs.declared.runner.Runner.{Runner}
use Rattle.loft_instant.specs.Batches.{applied_of}
use Rattle.loft_instant.specs.Positions.{IsAtIndex}
use Rattle.loft_instant.proofs.PositionLemmas.{suspended_there}
use Rattle.loft_instant.proofs.batch.Batch.suspend.Goals as goal

pub returns-in-Some : goal.returns-in-Some
returns-in-Some c =
    subst (λ (w : Applied). OnOk c.mark.result (applied_of c.mark.new.self ≡ w))
    (suspended_there c.args.thread c.args.self.now.linked.items c.in-Some.index c.index_mut.result.now c.suspend.new.self c.args.suspended (applied_of c.args.self.now)
    (subst (λ (rs : List Runner). IsAtIndex c.in-Some.index c.args.thread rs) c.as_slice.ensures.value c.in-Some.ensures) c.index_mut.ensures.value c.suspend.ensures refl)
    c.mark.ensures
