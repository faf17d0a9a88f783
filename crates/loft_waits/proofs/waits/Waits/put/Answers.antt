use Rattle.std.proofs.Common.{◌<◌, ℕ, List, length, Some, ap, sym, subst}
use Rattle.loft_waits.specs.Told.{Told}
use Rattle.loft_waits.specs.Places.{IsListed, IsKept, flag}
use Rattle.loft_waits.proofs.WaitsLemmas.{kept_put}
use Rattle.loft_waits.proofs.waits.Waits.put.Goals as goal

pub invariant_of-self-2 : goal.invariant_of-self-2
invariant_of-self-2 c =
    let w = c.self.inside in
    let p = c.args.pos in
    let v = c.args.wait in
    let lt : p < length w.plain.waits = subst (λ (t : Told). p < length t.waits) (sym c.self.view_is) c.requires.within in
    let listed : IsListed c.enter.new.places w.plain.closes p (Some v) = subst (λ (n : ℕ). IsListed c.enter.new.places n p (Some v)) c.closes.ensures c.in_ok-enter.ensures.ok in
    subst (λ (l : List ℕ). IsKept c.put.new.self l c.enter.new.places) (sym c.put-2.ensures)
    (kept_put w.plain c.put.new.self w.ready w.places c.enter.new.places p (Some v) (flag c.can_go.result) c.self.invariant lt c.enter.ensures.keeps listed
    c.put.ensures (ap flag c.can_go.ensures))
