-- Listings (docs/CODE.md, "Listings that are read").
use Rattle.std.specs.Prelude.{◌≡◌, ℕ, ◌+◌, Bool, ◌==◌, ◌⊎◌, List, [], ◌∷◌, take}
use Rattle.std.specs.List.{count_by}
use Rattle.loft_code.specs.Operations.{Automata}
use Rattle.loft_listing_draft.specs.Drafts.{Draft, IsListing}
use Rattle.loft_listing_draft.specs.Stops.{StopsAt}
use Rattle.loft_listing_names.specs.Wrong.{wrong_offsets, IsLeast}
use Rattle.loft_listing_reader.specs.Numbered.{numbered}

-- The text is a listing that says d, no line of it is wrong, and c is d with numbers in place of names.
pub record ListsAs (text : List ℕ) (c : Automata) (d : Draft) : Type 0 where
  pub said : IsListing text d
  pub right : wrong_offsets d ≡ []
  pub numbers : c ≡ numbered d

-- the text is a listing of the code
abbrev pub Lists : List ℕ → Automata → Type 0
Lists text c = (d : Draft) × ListsAs text c d

-- The line at this offset is the first that is wrong, or where the text stops, of what the text says before that.
abbrev pub OffsetFault : List ℕ → ℕ → Type 0
OffsetFault text at =
    ((d : Draft) × IsListing text d × IsLeast at (wrong_offsets d))
    ⊎ ((d : Draft) × (stop : ℕ) × StopsAt text d stop × IsLeast at (stop ∷ wrong_offsets d))

abbrev pub is_feed : ℕ → Bool
is_feed byte = byte == 10

-- the number, from 1, of the line at this offset: one more than how many line feeds stand before it
abbrev pub line_number : List ℕ → ℕ → ℕ
line_number text at = 1 + count_by is_feed (take at text)

-- Line n is the one at fault.
abbrev pub LineFault : List ℕ → ℕ → Type 0
LineFault text n = (at : ℕ) × OffsetFault text at × (n ≡ line_number text at)
