use Rattle.std.proofs.Common.{subst}
use Rattle.loft_tree.specs.declared.program.Item.{Item}
use Rattle.loft_tree.specs.View.{declaration_of}
use Rattle.loft_tree.specs.Fits.{DeclarationFits}
use Rattle.loft_scopes.proofs.Numbered.{item_fits}
use Rattle.loft_numbers.proofs.module.modules.Goals as goal

pub module-requires : goal.module-requires
module-requires c =
    let fits = item_fits c.args.items.now c.loop-item.item-index c.item-item.result c.loop-item-test.true c.item-item.is c.requires.fits in
    let module_fits = subst (λ (item : Item). DeclarationFits (declaration_of item)) c.in-Module.is fits in
    rw c.as_slice.ensures.value module_fits.few_statements
