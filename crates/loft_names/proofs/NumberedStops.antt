-- The stops of each module are numbered in the order of the text.
use Rattle.std.proofs.Common.{ℕ, ◌+◌, List, [], ◌∷◌}
use Rattle.loft_tree.specs.Source.{Module, Source}
use Rattle.loft_tree.specs.Fits.{Each}
use Rattle.loft_tree.specs.Stops.{AreNumbered}
use Rattle.loft_scopes.specs.declared.scope.Scope.TheVariants.{Within}
use Rattle.loft_scopes.specs.Scopes.{Declared, declared}
use Rattle.loft_numbers.specs.Numbers.{modules_in, numbered}
use Rattle.loft_numbers.proofs.Sizes.{are_numbered}

each_numbered : (ds : List Declared) (m : ℕ) (p : Source) → Each (λ x. AreNumbered x.body 0) (modules_in ds m p)
each_numbered ds m [] = tt
each_numbered ds m (Module head locals body ∷ rest) = (are_numbered ds (Within m) body 0, each_numbered ds (m + 1) rest)
each_numbered ds m (d ∷ rest) = each_numbered ds m rest

pub stops_numbered : (p : Source) → Each (λ x. AreNumbered x.body 0) (numbered p).modules
stops_numbered p = each_numbered (declared p) 0 p
