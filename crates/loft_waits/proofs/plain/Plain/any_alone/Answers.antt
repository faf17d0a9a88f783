use Rattle.std.proofs.Common.{ap, ◌∙◌, ℕ, ◌==◌}
use Rattle.std.specs.Prelude.{not}
use Rattle.std.specs.List.{list_any}
use Rattle.loft_waits.specs.Told.{Told, is_alone}
use Rattle.loft_waits.specs.Aged.{waits_of}
use Rattle.loft_waits.proofs.AloneLemmas.{any_counted}
use Rattle.loft_waits.proofs.plain.Plain.any_alone.Goals as goal

pub returns : goal.returns
returns c =
    let w = c.self.inside in
    ap (λ (n : ℕ). not (n == 0)) c.self.invariant.alone_is ∙ any_counted (waits_of w.clock w.slots.items) ∙ ap (λ (t : Told). list_any is_alone t.waits) c.self.view_is
