-- The index of the first in a list that passes a test.
use Rattle.std.proofs.Common.{◌≡◌, Bool, ◌||◌, not, cond, min, List, [], ◌∷◌, ◌++◌, length, Some, None, map, refl, ap, arith}
use Rattle.std.proofs.lemmas.Grind.{common_steps}
use Rattle.std.specs.Prelude.{position, unwrap_or}
use Rattle.std.specs.Option.{option_or}
use Rattle.std.specs.List.{position_or_len, list_any}
use Rattle.std.proofs.lemmas.List.Sums.{prefix_len-le-length}
use Rattle.std.proofs.lemmas.List.Folds.{position_or_len_push}

-- one more at the end
pub position-push : {X : Type 0} (p : X → Bool) (xs : List X) (y : X) → position p (xs ++ y ∷ []) ≡ option_or (position p xs) (cond (p y) (Some (length xs)) None)
position-push p xs y = let e = position_or_len_push p xs y in let le = prefix_len-le-length (λ x. not (p x)) xs in grind (arith, common_steps)

-- the first that passes one of two tests
pub position_or_len-either : {X : Type 0} (p q : X → Bool) (xs : List X) → position_or_len (λ x. p x || q x) xs ≡ min (position_or_len p xs) (position_or_len q xs)
position_or_len-either p q [] = refl
position_or_len-either p q (x ∷ xs) = let e = position_or_len-either p q xs in grind (arith, common_steps)

-- a position, or the length
pub unwrap_or-position : {X : Type 0} (p : X → Bool) (xs : List X) → unwrap_or (position p xs) (length xs) ≡ position_or_len p xs
unwrap_or-position p xs = let le = prefix_len-le-length (λ x. not (p x)) xs in grind (arith, common_steps)

-- a test of what each stands for
pub list_any-map : {X Y : Type 0} (p : Y → Bool) (of : X → Y) (xs : List X) → list_any p (map of xs) ≡ list_any (λ x. p (of x)) xs
list_any-map p of [] = refl
list_any-map p of (x ∷ xs) = ap (λ b. p (of x) || b) (list_any-map p of xs)
