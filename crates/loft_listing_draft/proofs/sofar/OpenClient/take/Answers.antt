use Rattle.std.proofs.Common.{◌+◌, ap, length, map, subst, sym}
use Rattle.loft_tree.specs.Fits.{Each}
use Rattle.loft_tree.specs.Source.{Outside}
use Rattle.loft_tree.specs.View.{order_of}
use Rattle.loft_listing_line.specs.Rows.{Close, line_text}
use Rattle.loft_listing_line.specs.declared.row.Row.{Row}
use Rattle.loft_listing_line.specs.RowView.{row_of}
use Rattle.loft_listing_draft.specs.Drafts.{source_of}
use Rattle.loft_listing_draft.specs.Held.{Takes}
use Rattle.loft_listing_draft.specs.InMemory.{HeldFits, held_operation}
use Rattle.loft_listing_draft.specs.Lined.{line_at}
use Rattle.loft_listing_draft.specs.Taking.{HasRoom, simple_item}
use Rattle.loft_listing_draft.proofs.TakenLines.{client_closes, take_more, with_client, with_nothing}
use Rattle.loft_listing_draft.proofs.sofar.OpenClient.take.Goals as goal

pub returns-in-Close-clause-taken : goal.returns-in-Close-clause-taken
returns-in-Close-clause-taken c w =
    let o = c.args.self in
    let d = Outside o.name (map order_of o.orders.items) in
    let item = c.close.ensures in
    let P : Row → Type 0 = λ r. Takes (with_client c.args.done o) c.args.at (line_at c.args.at (row_of r)) c.more.result in
    subst P (sym c.in-Close.is) (take_more (with_client c.args.done o) (with_nothing c.with.result) c.args.at Close c.more.result c.more.ensures
    (client_closes c.args.done c.with.result o c.args.at (c.args.at + length (line_text Close))
    (λ e holds room. c.with.ensures.more w e (simple_item d) holds (subst (HasRoom (source_of e)) (sym item) room) (sym item)
    (ap (map held_operation) c.new.ensures.items) (subst (Each HeldFits) (sym c.new.ensures.items) tt))))
