-- The bytes of a line, piece after piece.
use Rattle.std.proofs.Common.{◌≡◌, ℕ, List, [], ◌∷◌, ◌++◌, Result, Ok, Err, IfOk, ◌∙◌, arith}
use Rattle.std.proofs.lemmas.Grind.{common_steps}

-- what was made is these bytes, where memory was enough
pub is_made : {T E : Type 0} (r : Result T E) (bytes : T → List ℕ) (x y : List ℕ) (whole : Type 0) → IfOk r (λ _. whole) → IfOk r (λ made. bytes made ≡ x) → (whole → x ≡ y) → IfOk r (λ made. bytes made ≡ y)
is_made (Ok made) bytes x y whole w is same = is ∙ same w
is_made (Err e) bytes x y whole w is same = tt

-- two places after a text and a number
pub two_placed : (what at before first between second text one two all : List ℕ) → text ≡ what ++ at → one ≡ text ++ (before ++ first) → two ≡ one ++ (between ++ second) → all ≡ two ++ 10 ∷ [] → all ≡ (what ++ (at ++ (before ++ (first ++ (between ++ second))))) ++ 10 ∷ []
two_placed what at before first between second text one two all is is_one is_two is_all = grind (arith, common_steps)
