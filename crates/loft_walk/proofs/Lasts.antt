-- A list by its last element, and the same once that is set.
use Rattle.std.proofs.Common.{◌≡◌, ℕ, ◌+◌, ◌-◌, ◌<◌, List, [], ◌∷◌, ◌++◌, sym, ap, ◌∙◌, length, take, get_or, arith}
use Rattle.std.proofs.Math.ListN.{set, length-set}
use Rattle.std.proofs.Math.Seq.{take-length}
use Rattle.std.proofs.lemmas.List.{take_more, take_more_set, take-set-le}

module _ {A : Type 0} (xs : List A) (n : ℕ) (counted : n ≡ length xs) (some : 0 < n) where
  before : n - 1 < length xs
  before = omega arith

  whole : (ys : List A) → n ≡ length ys → take (n - 1 + 1) ys ≡ ys
  whole ys e = let all : n - 1 + 1 ≡ length ys = omega arith in ap (λ (k : ℕ). take k ys) all ∙ take-length ys

  pub last_is : (x : A) → x ≡ get_or xs (n - 1) x → xs ≡ take (n - 1) xs ++ x ∷ []
  last_is x e = sym (whole xs counted) ∙ (take_more xs (n - 1) x before ∙ ap (λ (y : A). take (n - 1) xs ++ y ∷ []) (sym e))

  pub last_set : (x : A) → set xs (n - 1) x ≡ take (n - 1) xs ++ x ∷ []
  last_set x = sym (whole (set xs (n - 1) x) (counted ∙ sym (length-set xs (n - 1) x))) ∙ take_more_set xs (n - 1) x before

  -- it is taken off
  pub last_off : (x : A) (popped : List A) → popped ≡ take (n - 1) (set xs (n - 1) x) → popped ≡ take (n - 1) xs
  last_off x popped e = e ∙ take-set-le (n - 1) xs (n - 1) x (omega arith)
