use Rattle.std.proofs.Common.{◌<◌, ℕ, List, length, sym, subst}
use Rattle.loft_waits.specs.Told.{Told}
use Rattle.loft_waits.specs.Places.{IsKept}
use Rattle.loft_waits.proofs.WaitsLemmas.{kept_take}
use Rattle.loft_waits.proofs.waits.Waits.take.Goals as goal

pub invariant_of-self : goal.invariant_of-self
invariant_of-self c =
    let w = c.self.inside in
    let p = c.args.pos in
    let lt : p < length w.plain.waits = subst (λ (t : Told). p < length t.waits) (sym c.self.view_is) c.requires.within in
    subst (λ (l : List ℕ). IsKept c.take-entry.new.self l c.leave_entry.new.places) (sym c.clear.ensures)
    (kept_take w.plain c.take-entry.new.self w.ready w.places c.leave_entry.new.places p c.self.invariant lt c.leave_entry.ensures c.take-entry.ensures.told)
