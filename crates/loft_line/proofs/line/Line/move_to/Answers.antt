use Rattle.std.proofs.Common.{◌≡◌, ◌∙◌, true, ap, refl, arith, length}
use Rattle.std.proofs.lemmas.Option.{slice_get_read}
use Rattle.loft_base.specs.declared.ids.ThreadId.{ThreadId}
use Rattle.loft_finder.specs.Finder.{may_stand}
use Rattle.loft_line.specs.declared.line.Line.{Line}
use Rattle.loft_line.specs.Line.{runners_in}
use Rattle.loft_line.proofs.ListLemmas.{there_is, length_with, length_line, length_left}
use Rattle.loft_line.proofs.NameLemmas.{read_id}
use Rattle.loft_line.proofs.RoomLemmas.{room_long, room_free, has_moved}
use Rattle.loft_line.proofs.line.Line.move_to.Goals as goal

pub leave-requires-clause-waits : goal.leave-requires-clause-waits
leave-requires-clause-waits c =
    let l = c.args.self.now in
    let within = c.requires.within in
    let long = length_line l.slots.items l.waits.waits c.requires.idle.line.waits in
    omega (arith, within, long)

pub exchange-requires-clause-within : goal.exchange-requires-clause-within
exchange-requires-clause-within c =
    let l = c.args.self.now in
    let within = c.requires.within in
    let left = length_left l.slots.items c.leave.new.slots.items l.waits.waits c.args.pos within c.leave.ensures.slots in
    omega (arith, within, left)

pub exchange-requires-clause-inside : goal.exchange-requires-clause-inside
exchange-requires-clause-inside c =
    let l = c.args.self.now in
    let within = c.requires.within in
    let order = c.requires.order in
    let left = length_left l.slots.items c.leave.new.slots.items l.waits.waits c.args.pos within c.leave.ensures.slots in
    omega (arith, within, left, order)

pub enter-requires-clause-within : goal.enter-requires-clause-within
enter-requires-clause-within c =
    let l = c.args.self.now in
    let within = c.requires.within in
    let order = c.requires.order in
    let long = room_long l c.args.to c.args.pos c.leave.new.slots.items c.exchange.new.slots.items within order c.leave.ensures.slots c.exchange.ensures in
    omega (arith, within, order, long)

pub enter-requires-clause-waits : goal.enter-requires-clause-waits
enter-requires-clause-waits c =
    let l = c.args.self.now in
    let within = c.requires.within in
    let order = c.requires.order in
    let long = Rattle.loft_line.proofs.RoomLemmas.room_waits l c.args.pos c.leave.new.waits c.requires.idle c.leave.ensures.told in
    omega (arith, within, order, long)

pub enter-requires-clause-free : goal.enter-requires-clause-free
enter-requires-clause-free c = room_free c.args.self.now c.args.to c.args.pos c.leave.new.waits c.requires.idle c.requires.order c.requires.empty c.leave.ensures.told

pub returns : goal.returns
returns c =
    let l = c.args.self.now in
    let within = c.requires.within in
    let order = c.requires.order in
    let same = length_with l.slots.items l.waits.waits in
    let new : Line = record { slots = c.enter.new.slots; waits = c.enter.new.waits; ran = l.ran; held = l.held; budget = l.budget; finder = c.remove.new.self } in
    let at = there_is (runners_in l) c.args.pos (omega (arith, within, same)) in
    let hole = there_is (runners_in l) c.args.to (omega (arith, within, order, same)) in
    let x = c.index.result.now in
    let stands : may_stand c.add.new.self at.0.thread.id c.args.to ≡ true =
    ap (λ (t : ThreadId). may_stand c.add.new.self t c.args.to) (read_id l.slots.items l.waits.waits c.args.pos x at.0 (slice_get_read l.slots.items (length l.slots.items) c.args.pos x refl within c.index.ensures) at.1)
    ∙ c.add.ensures.stands in
    has_moved l new c.args.to c.args.pos hole.0 at.0 c.leave.new.slots.items c.exchange.new.slots.items c.leave.new.waits c.requires.idle order hole.1 at.1 c.requires.empty
    c.leave.ensures.slots c.leave.ensures.told c.exchange.ensures c.in_ok-enter.ensures.told c.in_ok-enter.ensures.slots refl refl refl c.add.new.self c.add.ensures.keeps stands c.remove.ensures
