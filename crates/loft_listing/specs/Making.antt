-- What a listing in the making holds, as long as memory is enough.
use Rattle.std.specs.Prelude.{◌≡◌, ◌++◌, true, List}
use Rattle.std.specs.List.{flat_map}
use Rattle.loft_base.specs.declared.room.Room.{Room}
use Rattle.loft_listing_line.specs.Rows.{ListingLine, line_text}
use Rattle.loft_listing.specs.declared.text.Listing.{Listing}

-- something was made of which this is true, if memory was enough for it and before
abbrev pub Makes : Room → Room → Type 0 → Type 0
Makes old new fact = new.is_whole ≡ true → (old.is_whole ≡ true) × fact

-- memory was enough for the text so far, and for all that it was made of
abbrev pub IsWhole : Listing → Type 0
IsWhole listing = (listing.out.is_whole ≡ true) × (listing.room.is_whole ≡ true)

-- these lines are appended, if memory was enough for them and before
abbrev pub Adds : Listing → Listing → List ListingLine → Type 0
Adds old new lines = IsWhole new → IsWhole old × (new.out.text.items ≡ old.out.text.items ++ flat_map line_text lines)
