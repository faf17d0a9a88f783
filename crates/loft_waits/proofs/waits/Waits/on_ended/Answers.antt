use Rattle.std.proofs.Common.{subst}
use Rattle.loft_waits.specs.declared.key.Key.TheVariants.{End}
use Rattle.loft_finder.specs.declared.key.IdKey.{IdKey}
use Rattle.loft_waits.specs.Places.{SetsPlaced}
use Rattle.loft_waits.proofs.WaitsLemmas.{kept_end}
use Rattle.loft_waits.proofs.waits.Waits.on_ended.Goals as goal

pub invariant_of-self-2 : goal.invariant_of-self-2
invariant_of-self-2 c =
    let w = c.self.inside in
    let u = c.on_ended.new.self in
    let new = c.wake_one.new.ready in
    kept_end w.plain u w.ready new w.places c.args.thread c.self.invariant c.in_ok-on_ended.ensures.ok c.wake_one.ensures.many c.wake_one.ensures.some
    (subst (λ (k : IdKey). SetsPlaced u w.places.set (End k) new) c.of.ensures c.wake_one.ensures.listed)
