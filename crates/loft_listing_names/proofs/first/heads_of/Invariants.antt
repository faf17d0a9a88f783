use Rattle.std.proofs.Common.{◌≡◌, ◌++◌, drop, map}
use Rattle.loft_tree.specs.View.{head_of, source_of}
use Rattle.loft_listing_names.specs.Wrong.{heads_in}
use Rattle.loft_listing_names.proofs.first.heads_of.Given as goal

-- those that are left come after
abbrev pub invariant-loop-item : goal.invariant-loop-item
invariant-loop-item l = map (λ h. head_of h.now) l.heads.items ++ heads_in (source_of (drop l.item-index l.items)) ≡ heads_in (source_of l.items)
