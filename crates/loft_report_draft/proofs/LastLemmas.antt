-- The last element of a list that was taken, or wasn't there.
use Rattle.std.proofs.Common.{◌≡◌, ℕ, zero, suc, ◌-◌, ◌<◌, List, [], ◌∷◌, ◌++◌, length, slice_get, slice_set, Some, refl, sym, ap, ◌∙◌, arith}
use Rattle.std.proofs.lemmas.List.{nil_from_length}
use Rattle.loft_report_shape.specs.Last.{on_last}
use Rattle.loft_report_shape.specs.Told.{Report, in_last_block}
use Rattle.loft_report_shape.specs.declared.raw.RawBlock.{RawBlock}
use Rattle.loft_report_shape.proofs.Last.{on_last_push}

pub none_on_last : {A : Type 0} (f : A → A) → on_last f [] ≡ []
unfolding on_last
none_on_last f = refl

pub on_last_end : {A : Type 0} (f : A → A) (xs : List A) (x : A) → on_last f (xs ++ x ∷ []) ≡ xs ++ f x ∷ []
on_last_end = on_last_push

-- the last element is set
pub set_last : {A : Type 0} (f : A → A) (xs : List A) (x : A) → slice_get xs (length xs - 1) ≡ Some x → slice_set xs (length xs - 1) (f x) ≡ on_last f xs
unfolding on_last
set_last f [] x e = absurd cc
set_last f (y ∷ []) x e = let same : y ≡ x = cc in rw same refl
set_last f (y ∷ z ∷ ys) x e =
    let i : length (y ∷ z ∷ ys) - 1 ≡ suc (length (z ∷ ys) - 1) = omega arith in
    let there : slice_get (z ∷ ys) (length (z ∷ ys) - 1) ≡ Some x = rw i at e in
    rw i (ap (λ l. y ∷ l) (set_last f (z ∷ ys) x there))

pub last_set : {A : Type 0} (f : A → A) (xs : List A) (count : ℕ) (x y : A) → count ≡ length xs → slice_get xs (count - 1) ≡ Some x → y ≡ f x → slice_set xs (count - 1) y ≡ on_last f xs
last_set f xs count x y all there is =
    let e : slice_get xs (length xs - 1) ≡ Some x = rw all at there in
    rw (all, is) (set_last f xs x e)

-- there is none
pub none_set : {A : Type 0} (f : A → A) (xs : List A) (count : ℕ) → count ≡ length xs → (0 < count → ⊥) → xs ≡ on_last f xs
none_set f xs count all none = let e : xs ≡ [] = nil_from_length xs (omega (arith, all, none)) in rw e (sym (none_on_last f))

-- the same of the blocks of a report
pub block_set : (f : RawBlock → RawBlock) (r : Report) (count : ℕ) (x y : RawBlock) → count ≡ length r.blocks → slice_get r.blocks (count - 1) ≡ Some x → y ≡ f x → record r { blocks = slice_set r.blocks (count - 1) y } ≡ in_last_block f r
block_set f r count x y all there is = ap (λ (blocks : List RawBlock). record r { blocks = blocks }) (last_set f r.blocks count x y all there is)

pub no_block_set : (f : RawBlock → RawBlock) (r : Report) (count : ℕ) → count ≡ length r.blocks → (0 < count → ⊥) → r ≡ in_last_block f r
no_block_set f r count all none = ap (λ (blocks : List RawBlock). record r { blocks = blocks }) (none_set f r.blocks count all none)

-- an element is set to what it was
pub set_same : {A : Type 0} (xs : List A) (i : ℕ) (x y : A) → slice_get xs i ≡ Some x → y ≡ x → slice_set xs i y ≡ xs
set_same [] i x y there is = absurd cc
set_same (z ∷ zs) zero x y there is = let same : y ≡ z = cc in rw same refl
set_same (z ∷ zs) (suc i) x y there is = ap (λ l. z ∷ l) (set_same zs i x y there is)

pub block_same : (r : Report) (i : ℕ) (x y : RawBlock) → slice_get r.blocks i ≡ Some x → y ≡ x → record r { blocks = slice_set r.blocks i y } ≡ r
block_same r i x y there is = ap (λ (blocks : List RawBlock). record r { blocks = blocks }) (set_same r.blocks i x y there is)

-- what is left of a list from which nothing could be taken
pub nothing_taken : {A : Type 0} (f : A → A) (old new : List A) → old ≡ new ++ [] → old ≡ [] → new ≡ on_last f old
nothing_taken f old [] e n = sym (ap (on_last f) n ∙ none_on_last f)
nothing_taken f old (x ∷ new) e n = absurd (let h : [] ≡ x ∷ (new ++ []) = sym n ∙ e in cc)

pub no_block : (f : RawBlock → RawBlock) (r : Report) (new : List RawBlock) → r.blocks ≡ new ++ [] → r.blocks ≡ [] → record r { blocks = new } ≡ in_last_block f r
no_block f r new e n = ap (λ (blocks : List RawBlock). record r { blocks = blocks }) (nothing_taken f r.blocks new e n)
