-- The first fault of two lists.
use Rattle.std.proofs.Common.{◌≡◌, List, [], ◌∷◌, ◌++◌, Option, Some, refl, append-nil}
use Rattle.loft_tree.proofs.Trees.{statements}
use Rattle.loft_scopes.specs.declared.error.NameError.{NameError}
use Rattle.loft_scopes.specs.FirstFault.{least_of, sooner}

pub least_of-append : (first : Option NameError) (es ds : List NameError) → least_of first (es ++ ds) ≡ least_of (least_of first es) ds
least_of-append first [] ds = refl
least_of-append first (e ∷ es) ds = least_of-append (Some (sooner first e)) es ds

-- for the functions that look for faults
pub ruleset first_fault = (least_of-append, append-nil)

-- for statements and their bodies
pub ruleset statement_fault = (least_of-append, append-nil, statements)
