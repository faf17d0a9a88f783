-- Lines one after the other, each at its own offset.
use Rattle.std.proofs.Common.{◌≡◌, ℕ, ◌+◌, List, [], ◌∷◌, ◌++◌, length, refl, sym, ap, ◌∙◌, add-zero, length-append, arith}
use Rattle.loft_listing_line.specs.Rows.{ListingLine, line_text}
use Rattle.loft_listing_draft.specs.Drafts.{lines_text}
use Rattle.loft_listing_draft.specs.Lined.{line_at, lines_at}

-- the offset after a line
abbrev next : ℕ → ListingLine → ℕ
next n x = n + length (line_text x)

further : (n : ℕ) (x : ListingLine) (xs : List ListingLine) → next n x + length (lines_text xs) ≡ n + length (lines_text (x ∷ xs))
further n x xs = omega (arith, length-append (line_text x) (lines_text xs))

pub lined_append : (n : ℕ) (xs ys : List ListingLine) → lines_at n (xs ++ ys) ≡ lines_at n xs ++ lines_at (n + length (lines_text xs)) ys
lined_append n [] ys = ap (λ k. lines_at k ys) (sym (add-zero n))
lined_append n (x ∷ xs) ys =
    ap (λ zs. line_at n x ∷ zs) (lined_append (next n x) xs ys ∙ ap (λ k. lines_at (next n x) xs ++ lines_at k ys) (further n x xs))

pub lined_left : (n : ℕ) (xs ys : List ListingLine) → lines_at n (xs ++ ys) ≡ xs ++ ys → lines_at n xs ≡ xs
lined_left n [] ys same = refl
lined_left n (x ∷ xs) ys same =
    let first : line_at n x ≡ x = cc in
    let rest : lines_at (next n x) (xs ++ ys) ≡ xs ++ ys = cc in
    ap (λ l. l ∷ lines_at (next n x) xs) first ∙ ap (λ ls. x ∷ ls) (lined_left (next n x) xs ys rest)

pub lined_right : (n : ℕ) (xs ys : List ListingLine) → lines_at n (xs ++ ys) ≡ xs ++ ys → lines_at (n + length (lines_text xs)) ys ≡ ys
lined_right n [] ys same = ap (λ k. lines_at k ys) (add-zero n) ∙ same
lined_right n (x ∷ xs) ys same =
    let rest : lines_at (next n x) (xs ++ ys) ≡ xs ++ ys = cc in
    ap (λ k. lines_at k ys) (sym (further n x xs)) ∙ lined_right (next n x) xs ys rest

-- a line after others has the offset after them
pub lined_next : (n : ℕ) (xs : List ListingLine) (x : ListingLine) (ys : List ListingLine) → lines_at n (xs ++ x ∷ ys) ≡ xs ++ x ∷ ys
    → line_at (n + length (lines_text xs)) x ≡ x
lined_next n xs x ys same = let rest = lined_right n xs (x ∷ ys) same in cc
