use Rattle.std.proofs.Common.{◌≡◌, ◌∷◌, map, take}
use Rattle.std.specs.List.{flat_map}
use Rattle.loft_code.specs.View.{lines_of}
use Rattle.loft_listing_line.specs.Rows.{Title, line_text}
use Rattle.loft_listing.specs.Making.{IsWhole}
use Rattle.loft_listing.specs.Lines.{item_lines}
use Rattle.loft_listing.proofs.listing.write.Given as goal

-- the lines so far
abbrev pub invariant-loop-item : goal.invariant-loop-item
invariant-loop-item l =
    IsWhole l.listing → l.listing.out.text.items ≡ flat_map line_text (Title ∷ flat_map (item_lines l.c.heads (map lines_of l.c.modules.items)) (take l.item-index l.c.heads.items))
