use Rattle.std.proofs.Common.{◌+◌, ap, length, map, sym, subst, ◌∙◌}
use Rattle.loft_tree.specs.View.{declaration_of}
use Rattle.loft_listing_line.specs.Rows.{Item, line_text}
use Rattle.loft_listing_draft.specs.Drafts.{source_of}
use Rattle.loft_tree.specs.Fits.{Each}
use Rattle.loft_listing_draft.specs.InMemory.{HeldFits, held_operation}
use Rattle.loft_listing_draft.specs.Lined.{item_at}
use Rattle.loft_listing_draft.specs.Taking.{HasRoom, simple_item}
use Rattle.loft_listing_draft.proofs.TakenLines.{take_more, take_stop, room_to, room_from, with_nothing, item_stays, item_goes, simple_operations}
use Rattle.loft_listing_draft.proofs.closed.Closed.take_item.Goals as goal

pub returns-then-has_room-clause-taken : goal.returns-then-has_room-clause-taken
returns-then-has_room-clause-taken c w =
    let d = declaration_of c.args.item.now in
    let item = item_at c.args.at d in
    let same = c.item_at-item.ensures.copy c.requires (c.with.ensures.before w) in
    take_more (with_nothing c.args.self) (with_nothing c.with.result) c.args.at (Item item) c.more.result c.more.ensures
    (item_goes c.args.self c.with.result c.args.at (c.args.at + length (line_text (Item item))) item (λ p counts. room_to c.args.at p d ((c.has_room.ensures p counts).0 c.if-has_room.true))
    (λ e holds room. c.with.ensures.more w e (simple_item item) holds (subst (HasRoom (source_of e)) (sym same) room) (sym same) (ap (map held_operation) c.new.ensures.items ∙ sym (simple_operations item)) (subst (Each HeldFits) (sym c.new.ensures.items) tt)))

pub returns-else-has_room-clause-taken : goal.returns-else-has_room-clause-taken
returns-else-has_room-clause-taken c w =
    let d = declaration_of c.args.item.now in
    let item = item_at c.args.at d in
    take_stop (with_nothing c.args.self) c.args.at (Item item) c.stop.result c.stop.ensures
    (item_stays c.args.self c.args.at item (λ p counts room. (let there = (c.has_room.ensures p counts).1 (room_from c.args.at p d room) in absurd cc)))
