use Rattle.std.proofs.Common.{sym, subst}
use Rattle.loft_tree.specs.View.{declaration_of, source_of}
use Rattle.loft_tree.specs.Fits.{SourceFits}
use Rattle.loft_show.specs.Canon.{Canon, declaration_lines, lines_text, source_lines}
use Rattle.loft_show.proofs.Fitting.{item_fits}
use Rattle.loft_show.proofs.Texts.{lines_text-append, one_more}
use Rattle.loft_show.proofs.program.show.Goals as goal

pub put_item-requires : goal.put_item-requires
put_item-requires c =
    let fits = subst (λ items. SourceFits (source_of items)) (sym c.items-item-items.ensures.items) c.items-item-items.ensures.fits in
    item_fits c.items-item-items.result.now c.loop-item.item-index c.item-item.result c.loop-item-test.true c.item-item.is fits.each

pub loop-item-preserved : goal.loop-item-preserved
loop-item-preserved c = λ w. rw (c.put_item.ensures.text w)
    (one_more (λ xs. Canon (source_of xs)) (λ x. lines_text (declaration_lines (declaration_of x)))
    c.loop-item.out.text.items c.items-item-items.result.now c.loop-item.item-index c.item-item.result _
    (λ x xs. lines_text-append (declaration_lines (declaration_of x)) (source_lines (source_of xs)))
    c.loop-item-test.true c.item-item.is (c.loop-item.invariant (c.put_item.ensures.before w)))
