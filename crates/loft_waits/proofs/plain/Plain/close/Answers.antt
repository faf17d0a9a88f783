use Rattle.std.proofs.Common.{rules, sym, List, ℕ, Option, ap, ◌∙◌, length, ◌+◌}
use Rattle.loft_orders.specs.declared.thread.Wait.{Wait}
use Rattle.loft_waits.specs.Told.{Told, closed, no_counts}
use Rattle.loft_waits.specs.Aged.{waits_of}
use Rattle.loft_waits.proofs.AgedLemmas.{waits_later}
use Rattle.loft_waits.proofs.AloneLemmas.{count_later}
use Rattle.loft_waits.proofs.plain.Plain.close.Goals as goal

pub returns : goal.returns
returns c =
    let w = c.self.inside in
    let told : List (Option Wait) → List (Option ℕ) → Told = λ ws b. record { waits = ws; counts = b; ended = w.ended; closes = w.clock + 1 } in
    ap (λ (b : List (Option ℕ)). told (waits_of (w.clock + 1) w.slots.items) b) c.clear.ensures
    ∙ ap (λ (ws : List (Option Wait)). told ws (no_counts (length w.counts.items))) (waits_later w.clock w.slots.items c.self.invariant.before)
    ∙ ap closed c.self.view_is

pub invariant_of-self : goal.invariant_of-self
invariant_of-self c =
    let w = c.self.inside in
    record {
      before = search rules;
      alone_is = c.self.invariant.alone_is ∙ sym (count_later w.clock w.slots.items c.self.invariant.before);
    }
