use Rattle.std.proofs.Common.{sym, subst}
use Rattle.loft_waits.specs.Told.{Told, IsFreeFrom}
use Rattle.loft_waits.proofs.WaitsLemmas.{kept_less}
use Rattle.loft_waits.proofs.waits.Waits.truncate.Goals as goal

pub invariant_of-self : goal.invariant_of-self
invariant_of-self c =
    let w = c.self.inside in
    let free = subst (λ (t : Told). IsFreeFrom t c.args.len) (sym c.self.view_is) c.requires.free in
    kept_less w.plain c.truncate.new.self w.ready c.truncate-2.new.self w.places c.args.len c.self.invariant free c.truncate.ensures c.truncate-2.ensures
