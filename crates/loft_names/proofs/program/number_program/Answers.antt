use Rattle.loft_scopes.proofs.Numbered.{few_items}
use Rattle.loft_names.proofs.program.number_program.Goals as goal

pub links-requires-clause-few : goal.links-requires-clause-few
links-requires-clause-few c = few_items c.args.items.now c.requires.fits

pub modules-requires-clause-few : goal.modules-requires-clause-few
modules-requires-clause-few c = few_items c.args.items.now c.requires.fits

pub heads-requires : goal.heads-requires
heads-requires c = few_items c.args.items.now c.requires.fits
