use Rattle.std.proofs.Common.{map, take}
use Rattle.loft_listing_line.specs.Rows as rows
use Rattle.loft_listing.specs.Making.{Adds}
use Rattle.loft_listing.specs.Called.{called_order}
use Rattle.loft_listing.proofs.declaration.put_orders.Given as goal

-- the orders so far
abbrev pub invariant-loop-order : goal.invariant-loop-order
invariant-loop-order l = Adds l.initial.listing l.listing (map rows.Order (map (called_order l.heads) (take l.order-index l.orders)))
