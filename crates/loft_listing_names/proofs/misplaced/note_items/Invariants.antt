use Rattle.std.proofs.Common.{◌≡◌, drop, map}
use Rattle.std.specs.List.{flat_map}
use Rattle.loft_tree.specs.View.{head_of, source_of}
use Rattle.loft_listing_names.specs.Least.{least_of}
use Rattle.loft_listing_names.specs.Wrong.{declaration_misplaced}
use Rattle.loft_listing_names.proofs.misplaced.note_items.Given as goal

-- the offsets of those that are left come after
abbrev pub invariant-loop-item : goal.invariant-loop-item
invariant-loop-item l =
    least_of l.least (flat_map (declaration_misplaced l.table (map (λ h. head_of h.now) l.heads)) (source_of (drop l.item-index l.items)))
    ≡ least_of l.initial.least (flat_map (declaration_misplaced l.table (map (λ h. head_of h.now) l.heads)) (source_of l.items))
