use Rattle.std.proofs.Common.{map, take}
use Rattle.loft_listing_line.specs.Rows as rows
use Rattle.loft_listing.specs.Making.{Adds}
use Rattle.loft_listing.specs.Called.{called_variable}
use Rattle.loft_listing.proofs.declaration.put_locals.Given as goal

-- the variables so far
abbrev pub invariant-loop-local : goal.invariant-loop-local
invariant-loop-local l = Adds l.initial.listing l.listing (map (λ v. rows.Local (called_variable v)) (take l.local-index l.locals))
