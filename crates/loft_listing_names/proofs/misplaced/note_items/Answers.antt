use Rattle.std.proofs.Common.{map}
use Rattle.loft_tree.specs.View.{declaration_of, head_of}
use Rattle.loft_listing_names.specs.Wrong.{declaration_misplaced}
use Rattle.loft_listing_names.proofs.LeastOf.{one_more}
use Rattle.loft_listing_names.proofs.misplaced.note_items.Goals as goal

pub loop-item-preserved : goal.loop-item-preserved
loop-item-preserved c =
    one_more (declaration_misplaced c.args.table.now (map (λ h. head_of h.now) c.args.heads.now)) declaration_of c.loop-item.least c.note_item.new.least _ c.args.items.now c.loop-item.item-index
    c.item-item.result c.loop-item-test.true c.item-item.is c.loop-item.invariant c.note_item.ensures
