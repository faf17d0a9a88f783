-- The program with numbers is one of the language, where its names fit.
use Rattle.loft_tree.specs.Source.{Source}
use Rattle.loft_tree.specs.Fits.{SourceFits}
use Rattle.loft_tree.specs.NamedFits.{NamedFits}
use Rattle.loft_scopes.specs.Scopes.{declared}
use Rattle.loft_scopes.specs.Faults.{NamesFit}
use Rattle.loft_numbers.specs.Numbers.{numbered}
use Rattle.loft_names.proofs.HeadsDiffer.{names_differ}
use Rattle.loft_names.proofs.HeadsHolding.{heads_hold}
use Rattle.loft_names.proofs.HeadsLinks.{all_linked}
use Rattle.loft_names.proofs.NumberedBodies.{bodies_hold}

pub numbered_fits : (p : Source) → SourceFits p → NamesFit p → NamedFits (numbered p)
numbered_fits p fits names = record { heads = heads_hold p fits names; names = names_differ p names.faultless; bodies = bodies_hold p fits names; links = all_linked (declared p) p }
