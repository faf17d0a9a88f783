use Rattle.std.proofs.Common.{◌≡◌, ◌≤◌, ℕ, None, get_or, List, Option, ap, subst, sym, ◌∙◌, take}
use Rattle.std.proofs.lemmas.List.Elements.{All-take}
use Rattle.loft_orders.specs.declared.thread.Wait.{Wait}
use Rattle.loft_waits.specs.declared.entry.Entry.{Entry}
use Rattle.loft_waits.specs.Told.{Told, IsFreeFrom}
use Rattle.loft_waits.specs.Aged.{waits_of, IsPlain, IsEntryBefore, count_alone}
use Rattle.loft_waits.proofs.AgedLemmas.{waits_take}
use Rattle.loft_waits.proofs.AloneLemmas.{count_take}
use Rattle.loft_waits.proofs.plain.Plain.truncate.Goals as goal

pub returns : goal.returns
returns c =
    let w = c.self.inside in
    let told : List (Option Wait) → Told = λ ws. record { waits = ws; counts = w.counts.items; ended = w.ended; closes = w.clock } in
    ap (λ (l : List (Option Entry)). told (waits_of w.clock l)) c.truncate.ensures.items
    ∙ ap told (waits_take w.clock c.args.len w.slots.items)
    ∙ ap (λ (t : Told). record t { waits = take c.args.len t.waits }) c.self.view_is

pub invariant_of-self : goal.invariant_of-self
invariant_of-self c =
    let w = c.self.inside in
    let free : (i : ℕ) → c.args.len ≤ i → get_or (waits_of w.clock w.slots.items) i None ≡ None = subst (λ (t : Told). IsFreeFrom t c.args.len) (sym c.self.view_is) c.requires.free in
    subst (λ (l : List (Option Entry)). IsPlain w.clock l w.alone) (sym c.truncate.ensures.items)
    (record {
      before = All-take (IsEntryBefore w.clock) c.args.len w.slots.items c.self.invariant.before;
      alone_is = c.self.invariant.alone_is ∙ sym (ap count_alone (waits_take w.clock c.args.len w.slots.items) ∙ count_take (waits_of w.clock w.slots.items) c.args.len free);
    })
