use Rattle.std.proofs.Common.{◌≡◌, drop, map}
use Rattle.std.specs.List.{flat_map}
use Rattle.loft_tree.specs.View.{head_of, order_of}
use Rattle.loft_listing_names.specs.Least.{least_of}
use Rattle.loft_listing_names.specs.Wrong.{order_misplaced}
use Rattle.loft_listing_names.proofs.misplaced.note_orders.Given as goal

-- the offsets of those that are left come after
abbrev pub invariant-loop-order : goal.invariant-loop-order
invariant-loop-order l =
    least_of l.least (flat_map (order_misplaced l.table (map (λ h. head_of h.now) l.heads)) (map order_of (drop l.order-index l.orders)))
    ≡ least_of l.initial.least (flat_map (order_misplaced l.table (map (λ h. head_of h.now) l.heads)) (map order_of l.orders))
