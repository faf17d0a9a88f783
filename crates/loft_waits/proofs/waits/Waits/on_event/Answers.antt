use Rattle.std.proofs.Common.{◌<◌, length, sym, subst}
use Rattle.loft_waits.specs.Told.{Told}
use Rattle.loft_waits.proofs.WaitsLemmas.{kept_event}
use Rattle.loft_waits.proofs.waits.Waits.on_event.Goals as goal

pub invariant_of-self : goal.invariant_of-self
invariant_of-self c =
    let w = c.self.inside in
    let e = c.wake_event.ensures in
    let lt : c.args.event.0 < length w.plain.counts = subst (λ (t : Told). c.args.event.0 < length t.counts) (sym c.self.view_is) c.requires.declared in
    kept_event w.plain c.on_event.new.self w.ready c.wake_event.new.ready w.places c.args.event.0 c.args.count c.count-was.result c.self.invariant lt c.count-was.ensures c.on_event.ensures e.many e.some e.event e.more e.fewer
