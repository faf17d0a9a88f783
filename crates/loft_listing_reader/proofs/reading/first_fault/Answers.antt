use Rattle.std.proofs.Common.{◌≡◌, ap, ◌∙◌}
use Rattle.loft_tree.specs.View as view
use Rattle.loft_listing_draft.specs.Drafts.{source_of}
use Rattle.loft_listing_reader.proofs.Judging.{known_least, stop_least}
use Rattle.loft_listing_reader.proofs.reading.first_fault.Goals as goal

pub returns-clause-least : goal.returns-clause-least
returns-clause-least c d memory =
    let p = view.source_of c.as_slice-items.result.now in
    let items : p ≡ source_of d = ap view.source_of c.as_slice-items.ensures.value ∙ memory.items in
    let stop = c.args.drafted.now.stop in
    let names = c.earlier-2.ensures _ _ c.in_ok-table.ensures.least (c.earlier.ensures _ _ c.in_ok-misplaced.ensures (c.first_wrong_operation-operation.ensures d memory)) in
    known_least c.in_ok-table.table p d c.in_ok-table.ensures.table items stop c.earlier-first.result (c.earlier-first.ensures _ _ (stop_least stop) names)
