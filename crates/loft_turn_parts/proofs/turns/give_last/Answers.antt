use Rattle.std.proofs.Common.{◌≡◌, ◌∙◌, ◌-◌, List, Some, sym, ap, subst, length, slice_get}
use Rattle.std.specs.Prelude.{OnOk}
use Rattle.std.specs.Option.{option_copied}
use Rattle.loft_orders.specs.declared.entry.Entry.TheVariants as entry
use Rattle.loft_orders.specs.declared.note.InstantNote.{InstantNote}
use Rattle.loft_orders.specs.declared.order.Sent.{Sent}
use Rattle.loft_world.specs.State.{with_entry}
use Rattle.loft_turn_parts.proofs.TurnLemmas.{sent_at_end}
use Rattle.loft_turn_parts.proofs.turns.give_last.Goals as goal

pub returns-in-Some-clause-entry : goal.returns-in-Some-clause-entry
returns-in-Some-clause-entry c =
    let notes = c.args.notes.now in
    let is : slice_get notes (length notes - 1) ≡ Some c.in-Some.note.now =
    sym (ap (λ (ns : List InstantNote). slice_get ns (length ns - 1)) c.as_slice.ensures)
    ∙ (sym c.last.ensures.value ∙ ap option_copied c.in-Some.is) in
    subst (λ (sent : List Sent). OnOk c.give.result (c.give.new.self ≡ with_entry c.args.world.now (entry.Give c.args.s sent)))
    (sent_at_end notes c.in-Some.note.now is) c.give.ensures.ok
