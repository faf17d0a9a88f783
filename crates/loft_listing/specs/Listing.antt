-- The listing of code, to the byte (docs/CODE.md, "Listing").
use Rattle.std.specs.Prelude.{ℕ, List}
use Rattle.std.specs.List.{flat_map}
use Rattle.loft_code.specs.Operations.{Automata}
use Rattle.loft_listing_line.specs.Rows.{line_text}
use Rattle.loft_listing.specs.Lines.{listing_lines}

-- the texts of its lines, one after the other
abbrev pub listing_text : Automata → List ℕ
listing_text c = flat_map line_text (listing_lines c)
