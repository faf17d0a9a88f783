-- Texts of whole lines, one after the other.
use Rattle.std.proofs.Common.{◌≡◌, ℕ, List, [], ◌∷◌, ◌++◌, true, refl, sym, ap, ◌∙◌, append_assoc}
use Rattle.std.specs.List.{flat_map}
use Rattle.loft_base.specs.Writing.{are_lines, are_lines-end}

-- what comes before whole lines is part of the first of them
before_lines : (a : List ℕ) (x : ℕ) (b : List ℕ) → are_lines (x ∷ b) ≡ true → are_lines (a ++ x ∷ b) ≡ true
before_lines [] x b all = all
before_lines (y ∷ []) x b all = all
before_lines (y ∷ z ∷ a) x b all = before_lines (z ∷ a) x b all

feed_then : (b : List ℕ) → are_lines b ≡ true → are_lines (10 ∷ b) ≡ true
feed_then [] all = refl
feed_then (x ∷ b) all = all

-- a line, and whole lines after it
pub line_then : (a b : List ℕ) → are_lines b ≡ true → are_lines (a ++ 10 ∷ b) ≡ true
line_then a b all = before_lines a 10 b (feed_then b all)

-- whole lines, and whole lines after them
pub lines_then : (a b : List ℕ) → are_lines a ≡ true → are_lines b ≡ true → are_lines (a ++ b) ≡ true
lines_then [] b first more = more
lines_then (x ∷ []) [] first more = first
lines_then (x ∷ []) (y ∷ b) first more = more
lines_then (x ∷ y ∷ a) b first more = lines_then (y ∷ a) b first more

-- the whole lines of each
pub lines_of_each : {A : Type 0} (lines : A → List ℕ) → ((x : A) → are_lines (lines x) ≡ true) → (xs : List A) → are_lines (flat_map lines xs) ≡ true
lines_of_each lines each [] = refl
lines_of_each lines each (x ∷ xs) = lines_then (lines x) (flat_map lines xs) (each x) (lines_of_each lines each xs)

-- ---- texts that end with a line feed

abbrev pub EndsLine : List ℕ → Type 0
EndsLine text = (front : List ℕ) × (text ≡ front ++ 10 ∷ [])

pub is_ended : (text : List ℕ) → EndsLine text → are_lines text ≡ true
is_ended text (front, is) = ap are_lines is ∙ are_lines-end front

-- whatever comes before it
pub ended_after : (a text : List ℕ) → EndsLine text → EndsLine (a ++ text)
ended_after a text (front, is) = (a ++ front, ap (λ (t : List ℕ). a ++ t) is ∙ sym (append_assoc a front (10 ∷ [])))
