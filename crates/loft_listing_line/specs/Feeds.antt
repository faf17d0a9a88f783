-- Texts that are one line.
use Rattle.std.specs.Prelude.{◌≡◌, ℕ, List, ◌++◌}
use Rattle.loft_listing_line.specs.Cuts.{IsWithout}
use Rattle.loft_listing_line.specs.Instructions.{feed}

-- the text ends with a line feed, and has no other
abbrev pub EndsAtItsFeed : List ℕ → Type 0
EndsAtItsFeed text = (front : List ℕ) × (text ≡ front ++ feed) × IsWithout 10 front
