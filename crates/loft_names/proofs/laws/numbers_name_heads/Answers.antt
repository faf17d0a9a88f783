use Rattle.loft_names.proofs.HeadsNumbers.{numbers_name_heads}
use Rattle.loft_names.proofs.HeadsDeclared.{heads_are_declared}
use Rattle.loft_names.proofs.NumberedFits.{numbered_fits}
use Rattle.loft_names.proofs.NumberedStops.{stops_numbered}
use Rattle.loft_names.proofs.laws.numbers_name_heads.Goals as goal

pub returns-clause-heads : goal.returns-clause-heads
returns-clause-heads c = numbers_name_heads

pub returns-clause-names : goal.returns-clause-names
returns-clause-names c = heads_are_declared

pub returns-clause-stops : goal.returns-clause-stops
returns-clause-stops c = stops_numbered

pub returns-clause-fits : goal.returns-clause-fits
returns-clause-fits c = numbered_fits
