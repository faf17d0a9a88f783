-- Where a listing stops: at the first line where none goes on so (docs/CODE.md, "What a listing says").
use Rattle.std.specs.Prelude.{◌≡◌, ◌≢◌, ℕ, ◌⊎◌, List, [], ◌∷◌, ◌++◌, length}
use Rattle.std.specs.List.{Contains}
use Rattle.loft_listing_line.specs.Rows.{ListingLine, Title, End, Close, line_text}
use Rattle.loft_listing_draft.specs.Drafts.{Draft, DraftFits, draft_lines, lines_text}

-- some listing begins with these lines
abbrev pub IsBegun : List ListingLine → Type 0
IsBegun ls = (d : Draft) × (more : List ListingLine) × DraftFits d × (draft_lines d ≡ ls ++ more)

-- the lines that close what is open: nothing, a module, a client, or a listing without its first line
abbrev pub closings : List (List ListingLine)
closings = [] ∷ (End ∷ []) ∷ (Close ∷ []) ∷ (Title ∷ []) ∷ []

-- The text begins with these lines. They say this draft, once what is open is closed. No listing goes on with the next line
-- of the text, or the text has no further line and something is open.
pub record StopsAfter (text : List ℕ) (d : Draft) (lines closing : List ListingLine) (rest : List ℕ) : Type 0 where
  pub written : text ≡ lines_text lines ++ rest
  pub fits : DraftFits d
  pub said : draft_lines d ≡ lines ++ closing
  pub closes : Contains closings closing
  pub unfinished : (rest ≢ []) ⊎ (closing ≢ [])
  pub stops : (l : ListingLine) (after : List ℕ) → IsBegun (lines ++ l ∷ []) → rest ≢ line_text l ++ after

-- The text says this draft before the line at this offset, and stops there.
abbrev pub StopsAt : List ℕ → Draft → ℕ → Type 0
StopsAt text d at =
    (lines : List ListingLine) × (closing : List ListingLine) × (rest : List ℕ) × StopsAfter text d lines closing rest × (at ≡ length (lines_text lines))
