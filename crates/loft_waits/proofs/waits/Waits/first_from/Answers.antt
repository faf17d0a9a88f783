use Rattle.std.proofs.Common.{subst}
use Rattle.loft_waits.specs.Told.{Told}
use Rattle.loft_waits.specs.Places.{IsKept}
use Rattle.loft_waits.proofs.WaitsLemmas.{first_at}
use Rattle.loft_waits.proofs.waits.Waits.first_from.Goals as goal

pub returns : goal.returns
returns c =
    let w = c.self.inside in
    let kept = subst (λ (t : Told). IsKept t w.ready w.places) c.self.view_is c.self.invariant in
    first_at c.args.self.now w.ready w.places kept c.args.from c.next.result c.next.ensures
