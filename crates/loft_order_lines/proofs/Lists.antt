-- Elements of lists, and the first of those that pass a test.
use Rattle.std.proofs.Common.{◌≡◌, ℕ, zero, suc, ◌+◌, ◌<◌, Bool, true, false, List, [], ◌∷◌, ◌++◌, length, Some, None, slice_get, if◌then◌else◌, refl, subst, arith}
use Rattle.std.specs.List.{position_from}
use Rattle.loft_tree.specs.Fits.{Each}

-- there is an element at each index of a list
pub within_some : {A : Type 0} (xs : List A) (k : ℕ) → k < length xs → (x : A) × (slice_get xs k ≡ Some x)
within_some [] k h = absurd (omega arith)
within_some (x ∷ xs) zero h = (x, refl)
within_some (x ∷ xs) (suc k) h = within_some xs k (omega arith)

pub some_within : {A : Type 0} (xs : List A) (k : ℕ) (x : A) → slice_get xs k ≡ Some x → k < length xs
some_within [] k x e = absurd cc
some_within (y ∷ xs) zero x e = omega arith
some_within (y ∷ xs) (suc k) x e = omega (arith, some_within xs k x e)

pub each_at : {A : Type 0} (P : A → Type 0) (xs : List A) (k : ℕ) (x : A) → Each P xs → slice_get xs k ≡ Some x → P x
each_at P [] k x f at = absurd cc
each_at P (y ∷ ys) zero x f at = let same : y ≡ x = cc in subst P same f.0
each_at P (y ∷ ys) (suc k) x f at = each_at P ys k x f.1 at

pub each_append : {A : Type 0} (P : A → Type 0) (xs ys : List A) → Each P xs → Each P ys → Each P (xs ++ ys)
each_append P [] ys f g = g
each_append P (x ∷ xs) ys f g = (f.0, each_append P xs ys f.1 g)

-- the first that passes stands at its index, and passes
pub position_there : {A : Type 0} (p : A → Bool) (xs : List A) (n i : ℕ) → position_from p n xs ≡ Some i → (k : ℕ) × (x : A) × (i ≡ n + k) × (slice_get xs k ≡ Some x) × (p x ≡ true)
position_there p [] n i e = absurd cc
position_there p (x ∷ xs) n i e = go (p x) refl e (position_there p xs (n + 1) i)
  where
    go : (t : Bool) → p x ≡ t → (if t then Some n else position_from p (n + 1) xs) ≡ Some i
        → (position_from p (n + 1) xs ≡ Some i → (k : ℕ) × (y : _) × (i ≡ n + 1 + k) × (slice_get xs k ≡ Some y) × (p y ≡ true))
        → (k : ℕ) × (y : _) × (i ≡ n + k) × (slice_get (x ∷ xs) k ≡ Some y) × (p y ≡ true)
    go true is f later = let same : n ≡ i = cc in (0, x, omega (arith, same), refl, is)
    go false is f later = let (k, y, at, there, passes) = later f in (suc k, y, omega (arith, at), there, passes)

-- where none is found, none passes
pub position_none : {A : Type 0} (p : A → Bool) (xs : List A) (n k : ℕ) (x : A) → position_from p n xs ≡ None → slice_get xs k ≡ Some x → p x ≡ true → ⊥
position_none p [] n k x e there passes = cc
position_none p (y ∷ ys) n k x e there passes = go (p y) refl e k there (λ f j at. position_none p ys (n + 1) j x f at passes)
  where
    go : (t : Bool) → p y ≡ t → (if t then Some n else position_from p (n + 1) ys) ≡ None → (k : ℕ) → slice_get (y ∷ ys) k ≡ Some x
        → (position_from p (n + 1) ys ≡ None → (j : ℕ) → slice_get ys j ≡ Some x → ⊥) → ⊥
    go true is f k at later = cc
    go false is f zero at later = let same : y ≡ x = cc in let q : p x ≡ false = subst (λ z. p z ≡ false) same is in cc
    go false is f (suc k) at later = later f k at
