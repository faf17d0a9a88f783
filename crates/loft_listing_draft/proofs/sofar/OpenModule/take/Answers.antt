use Rattle.std.proofs.Common.{◌+◌, ap, length, map, subst, sym, ◌∙◌}
use Rattle.loft_tree.specs.Fits.{Each}
use Rattle.loft_listing_line.specs.Rows.{End, line_text}
use Rattle.loft_listing_line.specs.declared.row.Row.{Row}
use Rattle.loft_listing_line.specs.RowView.{row_of}
use Rattle.loft_listing_draft.specs.Drafts.{source_of}
use Rattle.loft_listing_draft.specs.Held.{Takes}
use Rattle.loft_listing_draft.specs.InMemory.{HeldFits, held_operation}
use Rattle.loft_listing_draft.specs.Lined.{line_at}
use Rattle.loft_listing_draft.specs.Taking.{HasRoom}
use Rattle.loft_listing_draft.proofs.TakenLines.{module_closes, take_more, with_module, with_nothing}
use Rattle.loft_listing_draft.proofs.sofar.OpenModule.take.Goals as goal

pub returns-in-End-clause-taken : goal.returns-in-End-clause-taken
returns-in-End-clause-taken c w =
    let o = c.args.self in
    let item = c.close-item.ensures.item in
    let ops = ap (λ v. v.items) c.close-item.ensures.operations in
    let P : Row → Type 0 = λ r. Takes (with_module c.args.done o) c.args.at (line_at c.args.at (row_of r)) c.more.result in
    subst P (sym c.in-End.is) (take_more (with_module c.args.done o) (with_nothing c.with.result) c.args.at End c.more.result c.more.ensures
    (module_closes c.args.done c.with.result o c.args.at (c.args.at + length (line_text End))
    (λ e i holds room is held fit. c.with.ensures.more w e i holds (subst (HasRoom (source_of e)) (is ∙ sym item) room) (is ∙ sym item)
    (ap (map held_operation) ops ∙ held) (subst (Each HeldFits) (sym ops) fit))))
