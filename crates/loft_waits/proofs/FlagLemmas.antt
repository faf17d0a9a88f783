-- Flags that are set, and where they are.
use Rattle.std.proofs.Common.{◌≡◌, ℕ, zero, suc, ◌+◌, ◌-◌, ◌<◌, ◌≤◌, ◌==◌, Bool, true, false, List, [], ◌∷◌, take, drop, refl, sym, ◌∙◌, ap, arith, length, get_or}
use Rattle.std.specs.Prelude.{nat_lt, slice_index}
use Rattle.std.proofs.lemmas.Bool.{ltb-true, ltb-false}
use Rattle.std.proofs.lemmas.List.{length-drop, length-take, get_or-drop, get_or-take}
use Rattle.memchr.specs.Find.{is_byte, Nowhere, NoneBefore, Passes}
use Rattle.loft_waits.specs.Flags.{is_set}

past : (bytes : List ℕ) (i : ℕ) → length bytes ≤ i → is_set bytes i ≡ false
past [] i h = refl
past (b ∷ bytes) zero h = absurd (omega arith)
past (b ∷ bytes) (suc i) h = past bytes i (omega arith)

pub refuse : (b : Bool) → b ≡ true → b ≡ false → ⊥
refuse true t f = cc
refuse false t f = cc

unset : (b : Bool) → (b ≡ true → ⊥) → b ≡ false
unset true h = absurd (h refl)
unset false h = refl

-- where a flag is set there is a position
inside : (bytes : List ℕ) (i : ℕ) → is_set bytes i ≡ true → i < length bytes
inside bytes i h = one (nat_lt i (length bytes)) refl
  where
    one : (b : Bool) → nat_lt i (length bytes) ≡ b → i < length bytes
    one true lt = ltb-true i (length bytes) lt
    one false ge = absurd (refuse (is_set bytes i) h (past bytes i (ltb-false i (length bytes) ge)))

at_rest : (bytes rest : List ℕ) (from k : ℕ) → rest ≡ drop from bytes → get_or rest k 0 ≡ get_or bytes (from + k) 0
at_rest bytes rest from k is = ap (λ (l : List ℕ). get_or l k 0) is ∙ get_or-drop from bytes k 0

not_at : (bytes rest : List ℕ) (from i : ℕ) → rest ≡ drop from bytes → from ≤ i → ((slice_index rest (i - from) == 1) ≡ true → ⊥) → is_set bytes i ≡ false
not_at bytes rest from i is le none =
    let e : from + (i - from) ≡ i = omega (arith, le) in
    unset (is_set bytes i) (λ h. none (ap (λ (n : ℕ). n == 1) (at_rest bytes rest from (i - from) is ∙ ap (λ (n : ℕ). get_or bytes n 0) e) ∙ h))

many_left : (bytes rest : List ℕ) (from : ℕ) → rest ≡ drop from bytes → length rest ≡ length bytes - from
many_left bytes rest from is = ap (λ (l : List ℕ). length l) is ∙ length-drop from bytes

none_set : (bytes rest : List ℕ) (from : ℕ) → rest ≡ drop from bytes → Nowhere (Passes (is_byte 1) rest) 0 (length rest) → (i : ℕ) → from ≤ i → is_set bytes i ≡ false
none_set bytes rest from is none i le = one (nat_lt i (length bytes)) refl
  where
    one : (b : Bool) → nat_lt i (length bytes) ≡ b → is_set bytes i ≡ false
    one true lt = not_at bytes rest from i is le (none (i - from) (omega arith) (let e = many_left bytes rest from is in let l = ltb-true i (length bytes) lt in omega (arith, e, l, le)))
    one false ge = past bytes i (ltb-false i (length bytes) ge)

-- the flags before a position
before_end : (bytes : List ℕ) (end i : ℕ) → i < end → is_set (take end bytes) i ≡ is_set bytes i
before_end bytes end i lt = ap (λ (m : ℕ). m == 1) (get_or-take end bytes i 0 lt)

pub none_between : (bytes rest : List ℕ) (from end : ℕ) → rest ≡ drop from (take end bytes) → Nowhere (Passes (is_byte 1) rest) 0 (length rest) → (i : ℕ) → from ≤ i → i < end → is_set bytes i ≡ false
none_between bytes rest from end is none i le lt = sym (before_end bytes end i lt) ∙ none_set (take end bytes) rest from is none i le

pub first_between : (bytes rest : List ℕ) (from end n : ℕ) → rest ≡ drop from (take end bytes) → NoneBefore (Passes (is_byte 1) rest) 0 (length rest) n → Passes (is_byte 1) rest n
    → (from ≤ from + n) × (from + n < end) × (is_set bytes (from + n) ≡ true) × ((i : ℕ) → from ≤ i → i < from + n → is_set bytes i ≡ false)
first_between bytes rest from end n is b h = (
  omega arith,
  low,
  sym (before_end bytes end (from + n) low) ∙ at,
  λ i le lt. sym (before_end bytes end i (omega (arith, lt, low))) ∙ not_at (take end bytes) rest from i is le (b.before (i - from) (omega arith) (omega (arith, le, lt))),
)
  where
    at : is_set (take end bytes) (from + n) ≡ true
    at = sym (ap (λ (m : ℕ). m == 1) (at_rest (take end bytes) rest from n is)) ∙ h

    low : from + n < end
    low = let l = inside (take end bytes) (from + n) at in let m = length-take end bytes in omega (arith, l, m)
