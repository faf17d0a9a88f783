-- Threads that are told, and the order of keys.
use Rattle.std.proofs.Common.{◌≡◌, ℕ, zero, suc, ◌<◌, ◌≤◌, ◌==◌, Bool, true, false, List, [], ◌∷◌, ◌++◌, refl, sym, ◌∙◌, ap, arith, length, get_or, eq-eqb, ne_eqb}
use Rattle.std.specs.Prelude.{cond, ◌||◌, ◌&&◌, nat_lt, Result, Ok, Err, MatchResult, is_ok}
use Rattle.std.specs.List.Sorted.{IsBinarySearchResult}
use Rattle.std.proofs.lemmas.List.Sorted.{searched}
use Rattle.std.proofs.lemmas.Bool.{ltb-true, ltb-false}
use Rattle.std.specs.declared.cmp.Ordering.{Ordering}
use Rattle.std.specs.declared.cmp.Ordering.TheVariants.{Less, Equal, Greater}
use Rattle.std.specs.Ordering.{is_eq, ordering_then, nat_cmp}
use Rattle.std.specs.Cmp.{unsigned_ties}
use mathlib.Core.Logic.{dite}
use native.Mathlib.Decide.{ℕ_discrete}
use Rattle.loft_base.specs.declared.ids.ThreadId.{ThreadId}
use Rattle.loft_sense.specs.CanGo.{same_thread, is_known}
use Rattle.loft_ended.specs.declared.keys.Keys.{Keys}
use Rattle.loft_ended.specs.Numbers.{IsRising, has_number}
use Rattle.loft_ended.specs.Ended.{has_thread, HasKeys}

eq_sym : (m n : ℕ) → (m == n) ≡ (n == m)
eq_sym m n =
    dite (ℕ_discrete m n)
    (λ e. eq-eqb m n e ∙ sym (eq-eqb n m (sym e)))
    (λ apart. ne_eqb m n apart ∙ sym (ne_eqb n m (λ e. apart (sym e))))

pub number_ties : (m n : ℕ) → is_eq (nat_cmp m n) ≡ (n == m)
number_ties m n = sym (unsigned_ties m n) ∙ eq_sym m n

pub eq_then : (x y : Ordering) → is_eq (ordering_then x y) ≡ (is_eq x && is_eq y)
eq_then Less y = refl
eq_then Equal y = refl
eq_then Greater y = refl

pub known_more : (t x : ThreadId) (xs : List ThreadId) → is_known t (xs ++ x ∷ []) ≡ cond (same_thread t x) true (is_known t xs)
known_more t x [] = one (same_thread t x)
  where
    one : (b : Bool) → (b || false) ≡ cond b true false
    one true = refl
    one false = refl
known_more t x (y ∷ xs) = ap (λ (b : Bool). same_thread t y || b) (known_more t x xs) ∙ turned (same_thread t y) (same_thread t x) (is_known t xs)
  where
    turned : (a b d : Bool) → (a || cond b true d) ≡ cond b true (a || d)
    turned true true d = refl
    turned true false d = refl
    turned false true d = refl
    turned false false d = refl

found : (xs : List ℕ) (n i : ℕ) → i < length xs → get_or xs i 0 ≡ n → has_number n xs ≡ true
found [] n i lt is = absurd (omega (arith, lt))
found (x ∷ xs) n zero lt is = ap (λ (b : Bool). b || has_number n xs) (eq-eqb x n is)
found (x ∷ xs) n (suc i) lt is = ap (λ (b : Bool). x == n || b) (found xs n i (omega (arith, lt)) is) ∙ or_true (x == n)
  where
    or_true : (b : Bool) → (b || true) ≡ true
    or_true true = refl
    or_true false = refl

missing : (xs : List ℕ) (n : ℕ) → ((i : ℕ) → i < length xs → get_or xs i 0 ≡ n → ⊥) → has_number n xs ≡ false
missing [] n none = refl
missing (x ∷ xs) n none = ap (λ (b : Bool). b || has_number n xs) (ne_eqb x n (none 0 (omega arith))) ∙ missing xs n (λ i lt. none (suc i) (omega (arith, lt)))

-- what a search among numbers that rise answers
pub has_found : (xs : List ℕ) (n : ℕ) (r : Result ℕ ℕ) → IsRising xs → IsBinarySearchResult (λ y. nat_cmp y n) xs r → is_ok r ≡ has_number n xs
has_found xs n r rising is = one r (searched xs n r is rising)
  where
    one : (q : Result ℕ ℕ) → MatchResult q (λ i. (i < length xs) × (get_or xs i 0 ≡ n)) (λ i. (i ≤ length xs) × ((k : ℕ) → k < i → get_or xs k 0 < n) × ((k : ℕ) → i ≤ k → k < length xs → n < get_or xs k 0)) → is_ok q ≡ has_number n xs
    one (Ok i) h = sym (found xs n i h.0 h.1)
    one (Err i) h = sym (missing xs n (λ k lt e. apart k lt e (nat_lt k i) refl))
      where
        apart : (k : ℕ) → k < length xs → get_or xs k 0 ≡ n → (b : Bool) → nat_lt k i ≡ b → ⊥
        apart k lt e true low = let a = h.1 k (ltb-true k i low) in omega (arith, a, e)
        apart k lt e false ge = let a = h.2 k (ltb-false k i ge) lt in omega (arith, a, e)

-- one more thread is told as ended
pub has_keys_more : (old new : Keys) (threads : List ThreadId) (x : ThreadId) → HasKeys old threads → ((t : ThreadId) → has_thread new t ≡ cond (same_thread t x) true (has_thread old t)) → HasKeys new (threads ++ x ∷ [])
has_keys_more old new threads x has more t = more t ∙ ap (λ (b : Bool). cond (same_thread t x) true b) (has t) ∙ sym (known_more t x threads)
