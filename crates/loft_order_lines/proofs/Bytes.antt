-- Bytes that others aren't among.
use Rattle.std.proofs.Common.{◌≡◌, ℕ, ◌^◌, ◌<◌, Bool, true, false, not, nat_le, ◌==◌, List, [], ◌∷◌, ◌++◌, refl, subst, arith}
use Rattle.std.proofs.lemmas.Bool.{leb-true, le-leb}
use Rattle.std.proofs.lemmas.Fmt.{digits_decimal}
use Rattle.std.proofs.lemmas.Str.Parse.{IsDigitsTest, FoldsDigits, numerals_by_fold}
use Rattle.std.specs.Fmt.{decimal}
use Rattle.std.specs.List.{list_all}
use Rattle.loft_spelling.specs.Sets.{is_digit, value_after}
use Rattle.loft_spelling.proofs.Sets.{and_both, both_and}
use Rattle.loft_order_lines.specs.Cut.{lacks, Lacks}

pub lacks_append : (c : ℕ) (a b : List ℕ) → Lacks c a → Lacks c b → Lacks c (a ++ b)
lacks_append c [] b p q = q
lacks_append c (d ∷ a) b p q = let r = and_both (not (d == c)) (lacks c a) p in both_and (not (d == c)) (lacks c (a ++ b)) r.0 (lacks_append c a b r.1 q)

other : (class : ℕ → Bool) (c b : ℕ) (t : Bool) → (b == c) ≡ t → class c ≡ false → class b ≡ true → not t ≡ true
other class c b false is none f = refl
other class c b true is none f = let same : b ≡ c = grind (arith, is) in let g : class c ≡ true = subst (λ d. class d ≡ true) same f in absurd cc

-- bytes of a class lack each byte that isn't of it
pub lacks_class : (class : ℕ → Bool) (c : ℕ) (bytes : List ℕ) → class c ≡ false → list_all class bytes ≡ true → Lacks c bytes
lacks_class class c [] none p = refl
lacks_class class c (b ∷ bytes) none p =
    let r = and_both (class b) (list_all class bytes) p in
    both_and (not (b == c)) (lacks c bytes) (other class c b (b == c) refl none r.0) (lacks_class class c bytes none r.1)

digits_test : IsDigitsTest (λ ds. list_all is_digit ds ≡ true)
digits_test = record {
  empty = refl;
  parts = λ c cs e. let p = and_both (is_digit c) (list_all is_digit cs) e in let q = and_both (nat_le 48 c) (nat_le c 57) p.0 in ((leb-true 48 c q.0, leb-true c 57 q.1), p.1);
  more = λ c cs k e. both_and (is_digit c) (list_all is_digit cs) (both_and (nat_le 48 c) (nat_le c 57) (le-leb 48 c k.0) (le-leb c 57 k.1)) e;
}

folds : FoldsDigits value_after
unfolding value_after
folds = record { empty = λ n. refl; more = λ n c cs k. refl }

-- the text of a number has digits alone
pub decimal_digits : (n : ℕ) → n < 2 ^ 64 → list_all is_digit (decimal n) ≡ true
decimal_digits n h = digits_decimal (numerals_by_fold (λ ds. list_all is_digit ds ≡ true) digits_test value_after folds) n h

pub lacks_decimal : (c n : ℕ) → n < 2 ^ 64 → is_digit c ≡ false → Lacks c (decimal n)
lacks_decimal c n h none = lacks_class is_digit c (decimal n) none (decimal_digits n h)
