-- Lists each of whose elements is so.
use Rattle.std.proofs.Common.{◌≡◌, ℕ, zero, suc, ◌<◌, List, [], ◌∷◌, ◌++◌, reverse, length, Some, slice_get, refl, sym, subst, arith}
use Rattle.std.specs.Prelude.{All, drop}
use Rattle.std.specs.List.{AllByRecursion}
use Rattle.std.proofs.lemmas.List.{reverse-append}
use Rattle.std.proofs.lemmas.List.Elements.{All-from_recursion, recursion_from_All}
use Rattle.loft_tree.specs.Fits.{Each}

pub within_some : {A : Type 0} (xs : List A) (k : ℕ) → k < length xs → (x : A) × (slice_get xs k ≡ Some x)
within_some [] k h = absurd (omega arith)
within_some (x ∷ xs) zero h = (x, refl)
within_some (x ∷ xs) (suc k) h = within_some xs k (omega arith)

pub each_append : {A : Type 0} (P : A → Type 0) (xs ys : List A) → Each P xs → Each P ys → Each P (xs ++ ys)
each_append P [] ys f g = g
each_append P (x ∷ xs) ys f g = (f.0, each_append P xs ys f.1 g)

pub each_parts : {A : Type 0} (P : A → Type 0) (xs ys : List A) → Each P (xs ++ ys) → Each P xs × Each P ys
each_parts P [] ys f = (tt, f)
each_parts P (x ∷ xs) ys f = let rest = each_parts P xs ys f.1 in ((f.0, rest.0), rest.1)

pub each_reverse : {A : Type 0} (P : A → Type 0) (xs : List A) → Each P xs → Each P (reverse xs)
each_reverse P [] f = tt
each_reverse P (x ∷ xs) f = subst (Each P) (sym (reverse-append (x ∷ []) xs)) (each_append P (reverse xs) (x ∷ []) (each_reverse P xs f.1) (f.0, tt))

pub each_map : {A : Type 0} (P Q : A → Type 0) (xs : List A) → ((x : A) → P x → Q x) → Each P xs → Each Q xs
each_map P Q [] turn f = tt
each_map P Q (x ∷ xs) turn f = (turn x f.0, each_map P Q xs turn f.1)

pub each_drop : {A : Type 0} (P : A → Type 0) (xs : List A) → Each P xs → Each P (drop 1 xs)
each_drop P [] f = tt
each_drop P (x ∷ xs) f = f.1

pub each_at : {A : Type 0} (P : A → Type 0) (xs : List A) (k : ℕ) (x : A) → Each P xs → slice_get xs k ≡ Some x → P x
each_at P [] k x f at = absurd cc
each_at P (y ∷ ys) zero x f at = let same : y ≡ x = cc in subst P same f.0
each_at P (y ∷ ys) (suc k) x f at = each_at P ys k x f.1 at

-- ---- as laws say it

pub all_of : {A : Type 0} (P : A → Type 0) (xs : List A) → Each P xs → All P xs
all_of P xs f = All-from_recursion P xs (by_recursion P xs f)
  where
    by_recursion : {A : Type 0} (P : A → Type 0) (xs : List A) → Each P xs → AllByRecursion P xs
    by_recursion P [] f = tt
    by_recursion P (x ∷ xs) f = (f.0, by_recursion P xs f.1)

pub each_of : {A : Type 0} (P : A → Type 0) (xs : List A) → All P xs → Each P xs
each_of P xs f = by_each P xs (recursion_from_All P xs f)
  where
    by_each : {A : Type 0} (P : A → Type 0) (xs : List A) → AllByRecursion P xs → Each P xs
    by_each P [] f = tt
    by_each P (x ∷ xs) f = (f.0, by_each P xs f.1)
