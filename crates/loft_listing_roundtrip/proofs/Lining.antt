-- Lines that are given the offsets at which they stand.
use Rattle.std.proofs.Common.{◌≡◌, ℕ, ◌+◌, List, [], ◌∷◌, ◌++◌, length, refl, ap, ◌∙◌}
use Rattle.loft_tree.specs.Fits.{Each}
use Rattle.loft_listing_line.specs.Rows.{ListingLine, line_text}
use Rattle.loft_listing_line.specs.RowsFit.{ListingLineFits}
use Rattle.loft_listing_draft.specs.Drafts.{lines_text}
use Rattle.loft_listing_draft.specs.Lined.{line_at, lines_at}
use Rattle.loft_listing_draft.proofs.Offsets.{line_at_fits, line_at_text, line_twice}

-- they fit as before
pub lines_at_fit : (at : ℕ) (ls : List ListingLine) → Each ListingLineFits ls → Each ListingLineFits (lines_at at ls)
lines_at_fit at [] fit = tt
lines_at_fit at (l ∷ ls) fit = (line_at_fits at l fit.0, lines_at_fit (at + length (line_text l)) ls fit.1)

-- their texts are the same
pub lines_at_text : (at : ℕ) (ls : List ListingLine) → Each ListingLineFits ls → lines_text (lines_at at ls) ≡ lines_text ls
lines_at_text at [] fit = refl
lines_at_text at (l ∷ ls) fit = (λ i. line_at_text at l fit.0 i ++ lines_at_text (at + length (line_text l)) ls fit.1 i)

-- they stand where they are
pub lines_twice : (at : ℕ) (ls : List ListingLine) → Each ListingLineFits ls → lines_at at (lines_at at ls) ≡ lines_at at ls
lines_twice at [] fit = refl
lines_twice at (l ∷ ls) fit =
    let next : ℕ = at + length (line_text l) in
    let same : lines_at (at + length (line_text (line_at at l))) (lines_at next ls) ≡ lines_at next ls = ap (λ t. lines_at (at + length t) (lines_at next ls)) (line_at_text at l fit.0) ∙ lines_twice next ls fit.1 in
    (λ i. line_twice at at l fit.0 i ∷ same i)

-- some lines stand anywhere
pub anywhere : (at : ℕ) (ls : List ListingLine) → Each (λ l. (n : ℕ) → line_at n l ≡ l) ls → lines_at at ls ≡ ls
anywhere at [] each = refl
anywhere at (l ∷ ls) each = (λ i. each.0 at i ∷ anywhere (at + length (line_text l)) ls each.1 i)
