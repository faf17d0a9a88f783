use Rattle.loft_names.proofs.HoldsPrograms.{fits_holds, holds_fits}
use Rattle.loft_names.proofs.laws.names_fit_means.Goals as goal

pub returns-clause-holds : goal.returns-clause-holds
returns-clause-holds c = fits_holds

pub returns-clause-fits : goal.returns-clause-fits
returns-clause-fits c = holds_fits
