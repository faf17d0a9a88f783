-- Lists: what follows an index, and what each element is.
use Rattle.std.proofs.Common.{◌≡◌, ℕ, ◌+◌, ◌<◌, zero, suc, Bool, true, false, cond, List, [], ◌∷◌, ◌++◌, length, Some, None, inl, inr, refl, ap, subst, ◌∙◌, arith}
use Rattle.std.specs.Prelude.{slice_get, find}
use Rattle.std.specs.Option.{option_map}
use Rattle.std.specs.List.{Contains, list_any}
use Rattle.std.proofs.lemmas.Bool.{or_cases}
use Rattle.std.proofs.lemmas.Option.{slice_get-get_or, slice_get_within, get_or_from_slice_get}
use Rattle.loft_tree.specs.Fits.{Each}

-- from this index on the list has these elements
pub record Follows {A : Type 0} (all : List A) (k : ℕ) (rest : List A) : Type 0 where
  pub at : (i : ℕ) → slice_get all (k + i) ≡ slice_get rest i

pub follows_all : {A : Type 0} (xs : List A) → Follows xs 0 xs
follows_all xs = record { at = λ i. let e : 0 + i ≡ i = omega arith in ap (slice_get xs) e }

pub follows_head : {A : Type 0} (all : List A) (k : ℕ) (x : A) (xs : List A) → Follows all k (x ∷ xs) → slice_get all k ≡ Some x
follows_head all k x xs f = let e : k ≡ k + 0 = omega arith in ap (slice_get all) e ∙ f.at 0

pub follows_tail : {A : Type 0} (all : List A) (k : ℕ) (x : A) (xs : List A) → Follows all k (x ∷ xs) → Follows all (k + 1) xs
follows_tail all k x xs f = record { at = λ i. let e : k + 1 + i ≡ k + suc i = omega arith in ap (slice_get all) e ∙ f.at (suc i) }

-- ---- what each is

pub each-append : {A : Type 0} (P : A → Type 0) (xs ys : List A) → Each P xs → Each P ys → Each P (xs ++ ys)
each-append P [] ys left right = right
each-append P (x ∷ xs) ys left right = (left.0, each-append P xs ys left.1 right)

pub each_left : {A : Type 0} (P : A → Type 0) (xs ys : List A) → Each P (xs ++ ys) → Each P xs
each_left P [] ys each = tt
each_left P (x ∷ xs) ys each = (each.0, each_left P xs ys each.1)

pub each_right : {A : Type 0} (P : A → Type 0) (xs ys : List A) → Each P (xs ++ ys) → Each P ys
each_right P [] ys each = each
each_right P (x ∷ xs) ys each = each_right P xs ys each.1

pub each_get : {A : Type 0} (P : A → Type 0) (xs : List A) (k : ℕ) (x : A) → Each P xs → slice_get xs k ≡ Some x → P x
each_get P [] k x each is = absurd cc
each_get P (y ∷ ys) zero x each is = let e : y ≡ x = cc in subst P e each.0
each_get P (y ∷ ys) (suc k) x each is = each_get P ys k x each.1 is

pub each_from_get : {A : Type 0} (P : A → Type 0) (xs : List A) → ((k : ℕ) (x : A) → slice_get xs k ≡ Some x → P x) → Each P xs
each_from_get P [] all = tt
each_from_get P (x ∷ xs) all = (all 0 x refl, each_from_get P xs (λ k y is. all (suc k) y is))

pub each_map : {A : Type 0} (P Q : A → Type 0) (xs : List A) → ((x : A) → P x → Q x) → Each P xs → Each Q xs
each_map P Q [] turn each = tt
each_map P Q (x ∷ xs) turn each = (turn x each.0, each_map P Q xs turn each.1)

-- an element has an index
pub index_of : {A : Type 0} (xs : List A) (x : A) → Contains xs x → (k : ℕ) × (slice_get xs k ≡ Some x)
index_of xs x (k, lt, is) = (k, slice_get-get_or xs k x lt ∙ ap Some is)

pub contains_at : {A : Type 0} (xs : List A) (k : ℕ) (x : A) → slice_get xs k ≡ Some x → Contains xs x
contains_at xs k x is = (k, slice_get_within xs k x is, get_or_from_slice_get xs k x x is)

pub each_contained : {A : Type 0} (P : A → Type 0) (xs : List A) (x : A) → Each P xs → Contains xs x → P x
each_contained P xs x each there = let at = index_of xs x there in each_get P xs at.0 x each at.1

pub head_contained : {A : Type 0} (x : A) (xs : List A) → Contains (x ∷ xs) x
head_contained x xs = (0, omega arith, refl)

pub tail_contained : {A : Type 0} (x y : A) (xs : List A) → Contains xs y → Contains (x ∷ xs) y
tail_contained x y xs (k, lt, is) = (suc k, omega arith, is)

-- ---- what a search finds

pub found_in : {A : Type 0} (test : A → Bool) (xs : List A) (x : A) → find test xs ≡ Some x → Contains xs x × (test x ≡ true)
found_in test [] x is = absurd cc
found_in {A} test (y ∷ ys) x is = elim (test y) as (λ b. test y ≡ b → cond b (Some y) (find test ys) ≡ Some x → Contains (y ∷ ys) x × (test x ≡ true)) [
  | true ↦ λ passes same. let e : y ≡ x = cc in (subst (λ (z : A). Contains (y ∷ ys) z) e (head_contained y ys), subst (λ (z : A). test z ≡ true) e passes)
  | false ↦ λ fails later. let there = found_in test ys x later in (tail_contained y x ys there.0, there.1)
] refl is

pub each_found : {A : Type 0} (P : A → Type 0) (test : A → Bool) (xs : List A) (x : A) → Each P xs → find test xs ≡ Some x → P x
each_found P test xs x each is = each_contained P xs x each (found_in test xs x is).0

pub mapped_within : {A B : Type 0} (f : A → B) (xs : List A) (k : ℕ) (y : B) → option_map f (slice_get xs k) ≡ Some y → k < length xs
mapped_within f [] k y is = absurd cc
mapped_within f (x ∷ xs) zero y is = omega arith
mapped_within f (x ∷ xs) (suc k) y is = let rest = mapped_within f xs k y is in omega arith

pub none_found : {A : Type 0} (test : A → Bool) (xs : List A) → find test xs ≡ None → Each (λ x. test x ≡ false) xs
none_found test [] none = tt
none_found test (y ∷ ys) none = elim (test y) as (λ b. test y ≡ b → cond b (Some y) (find test ys) ≡ None → Each (λ x. test x ≡ false) (y ∷ ys)) [
  | true ↦ λ passes some. absurd cc
  | false ↦ λ fails later. (fails, none_found test ys later)
] refl none

-- a list some of whose elements pass a test has one that does
pub some_passes : {A : Type 0} (P : A → Type 0) (test : A → Bool) (xs : List A) → Each P xs → list_any test xs ≡ true → (x : A) × P x × (test x ≡ true)
some_passes P test [] each some = absurd cc
some_passes P test (x ∷ xs) each some = elim (or_cases (test x) (list_any test xs) some) [
  | inl here ↦ (x, each.0, here)
  | inr later ↦ some_passes P test xs each.1 later
]
