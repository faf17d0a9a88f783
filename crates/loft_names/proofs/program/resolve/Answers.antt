use Rattle.std.proofs.Common.{sym, subst}
use Rattle.loft_tree.specs.View.{source_of}
use Rattle.loft_tree.specs.Fits.{SourceFits}
use Rattle.loft_tree.specs.NamedFits.{NamedFits}
use Rattle.loft_names.proofs.NumberedFits.{numbered_fits}
use Rattle.loft_names.proofs.program.resolve.Goals as goal

pub new-requires : goal.new-requires
new-requires c =
    let fits = subst (λ items. SourceFits (source_of items)) (sym c.items-items.ensures.items) c.items-items.ensures.fits in
    subst NamedFits (sym c.in_ok-program.ensures) (numbered_fits (source_of c.items-items.result.now) fits c.in_ok-table.ensures.fits)
