-- Lines written one after the other.
use Rattle.std.proofs.Common.{◌≡◌, ℕ, ◌+◌, ◌<◌, List, ◌∷◌, ◌++◌, length, drop, get_or, drop-cons, [], ap, ◌∙◌, append-nil, arith}
use Rattle.std.proofs.lemmas.Grind.{common_steps, flat_map-append}
use Rattle.loft_orders.specs.Lines.{text_of}

pub text_of-append : (a b : List (List ℕ)) → text_of (a ++ b) ≡ text_of a ++ text_of b
text_of-append a b = flat_map-append (λ line. line ++ 10 ∷ []) a b

-- the element at an index, and those after it
pub drop-at : {A : Type 0} (xs : List A) (i : ℕ) (x : A) → i < length xs → x ≡ get_or xs i x → drop i xs ≡ x ∷ drop (i + 1) xs
drop-at xs i x below is = grind (arith, common_steps, drop-cons xs i x below)

-- what a line holds, and then its line feed
pub with_feed : {bytes now before text : List ℕ} → bytes ≡ now → now ≡ before ++ 10 ∷ [] → before ≡ text → bytes ≡ text ++ 10 ∷ []
with_feed is appended held = is ∙ (appended ∙ ap (λ t. t ++ 10 ∷ []) held)

-- one line alone
pub text_of-one : (line : List ℕ) → text_of (line ∷ []) ≡ line ++ 10 ∷ []
text_of-one line = append-nil (line ++ 10 ∷ [])
