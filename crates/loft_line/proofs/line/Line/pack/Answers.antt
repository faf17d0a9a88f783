use Rattle.std.proofs.Common.{◌≡◌, ◌<◌, ◌∙◌, refl, sym, ap, arith, length, Some}
use Rattle.std.specs.Prelude.{slice_get}
use Rattle.std.proofs.lemmas.Option.{slice_get_read}
use Rattle.loft_passes.specs.View.{is_held}
use Rattle.loft_line.specs.Line.{runners_in}
use Rattle.loft_line.proofs.ListLemmas.{there_is, length_with}
use Rattle.loft_line.proofs.EndLemmas.{logical_stop}
use Rattle.loft_line.proofs.RoomLemmas.{packed_next, packed_skip, packed_places}
use Rattle.loft_line.proofs.line.Line.pack.Goals as goal
use Rattle.loft_line.proofs.line.Line.pack.Goals.{then-is_held+in_ok-move_down, else-is_held}

pub loop-pos-preserved : goal.loop-pos-preserved
loop-pos-preserved c =
    let old = c.args.self.now in
    let l = c.loop-pos.self in
    let p = c.loop-pos.pos in
    let x = c.index.result.now in
    let end = c.len-pos-end.ensures in
    let inside = c.loop-pos-test.true in
    let long = c.loop-pos.invariant.long in
    let same = length_with l.slots.items l.waits.waits in
    let within : p < length l.slots.items = omega (arith, end, inside, long) in
    let there : slice_get l.slots.items p ≡ Some x = slice_get_read l.slots.items (length l.slots.items) p x refl within c.index.ensures in
    let r = there_is (runners_in l) p (omega (arith, within, same)) in
    let stop = logical_stop l.slots.items l.waits.waits p x r.0 there r.1 in
    elim c.if-is_held.branch [
      | then-is_held+in_ok-move_down w ↦ rw (w.self-is, w.next-is) (packed_next old l w.move_down.new.self c.loop-pos.next p r.0 c.loop-pos.invariant r.1 (ap is_held stop ∙ sym c.is_held.ensures ∙ w.if-is_held.true) w.in_ok-move_down.ensures)
      | else-is_held w ↦ rw (w.self-is, w.next-is) (packed_skip old l c.loop-pos.next p r.0 c.loop-pos.invariant r.1 (ap is_held stop ∙ sym c.is_held.ensures ∙ w.if-is_held.false))
    ]

pub returns-clause-places : goal.returns-clause-places
returns-clause-places c = packed_places c.args.self.now c.loop-pos.self c.cut.new.self c.loop-pos.next c.loop-pos.pos c.loop-pos.invariant c.cut.ensures.places c.cut.ensures.linked c.cut.ensures.first
