use Rattle.std.proofs.Common.{◌+◌, ◌<◌, ◌≡◌, ◌∙◌, ℕ, List, length, ap, sym, subst}
use Rattle.loft_waits.specs.declared.key.Key.TheVariants.{Close}
use Rattle.loft_waits.specs.Told.{Told, NobodyFrom}
use Rattle.loft_waits.specs.Places.{SetsSome, SetsListed, KeepsBut}
use Rattle.loft_waits.proofs.WaitsLemmas.{kept_close}
use Rattle.loft_waits.proofs.waits.Waits.close.Goals as goal

pub invariant_of-self : goal.invariant_of-self
invariant_of-self c =
    let w = c.self.inside in
    let u = c.close.new.self in
    let new = c.wake_close.new.ready in
    let few : w.plain.closes + 1 < 9223372036854775808 = subst (λ (t : Told). t.closes + 1 < 9223372036854775808) (sym c.self.view_is) c.requires.few in
    let idle : NobodyFrom w.plain 0 = subst (λ (t : Told). NobodyFrom t 0) (sym c.self.view_is) c.requires.idle in
    let at : c.closes-closes.result ≡ w.plain.closes + 1 = c.closes-closes.ensures ∙ ap (λ (t : Told). t.closes) c.close.ensures in
    kept_close w.plain u w.ready new w.places c.forget.new.places c.self.invariant few idle c.close.ensures
    (subst (λ (l : List ℕ). length new ≡ length l) c.rest.ensures c.wake_close.ensures.many) (subst (λ (l : List ℕ). SetsSome u l new) c.rest.ensures c.wake_close.ensures.some)
    (subst (λ (n : ℕ). SetsListed u w.places (Close n) new) at c.wake_close.ensures.listed)
    (subst (λ (n : ℕ). KeepsBut (Close n) w.places c.forget.new.places) at c.forget.ensures)
