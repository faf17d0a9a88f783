-- Digits that are a whole number are all that a set of numbers takes.
use Rattle.std.proofs.Common.{◌≡◌, ℕ, zero, suc, ◌+◌, ◌<◌, ◌≤◌, not, nat_le, Bool, true, false, ◌==◌, ◌&&◌, ◌||◌, List, [], ◌∷◌, ◌++◌, length, get_or, take, arith, refl, sym, ap, subst, ◌∙◌}
use Rattle.std.proofs.Math.Seq.{take-suc}
use Rattle.std.proofs.lemmas.Bool.Decides.{nat_tests}
use Rattle.std.proofs.lemmas.List.{append-nil}
use Rattle.std.proofs.lemmas.List.Folds.{list_all-append}
use Rattle.std.specs.List.{list_all}
use Rattle.loft_spelling.specs.Sets.{is_digit, is_empty, is_number, begun_after, is_prefix, value_of}
use Rattle.loft_spelling.proofs.Sets.{and_both}
use Rattle.loft_report_shape.specs.Sets.{number_set, least, sign}
use Rattle.loft_report_shape.proofs.HonestSets.{honest}
use Rattle.loft_report_shape.specs.declared.part.Part.TheVariants.{Number}
use Rattle.loft_report_shape.specs.declared.part.NumberKind.{NumberKind}
use Rattle.loft_report_shape.specs.declared.part.NumberKind.TheVariants as number
use Rattle.loft_report_sets.specs.Taken.{Run}
use Rattle.loft_report_sets.proofs.TakenLemmas.{sign_there}
use Rattle.loft_report_reader.specs.Ahead.{There}

more : (bytes : List ℕ) (n : ℕ) → n < length bytes → take (n + 1) bytes ≡ take n bytes ++ get_or bytes n 0 ∷ []
more bytes n h = let e : n + 1 ≡ suc n = omega arith in ap (λ k. take k bytes) e ∙ take-suc bytes n 0 h

not_digits : (bytes : List ℕ) (n : ℕ) → n < length bytes → is_digit (get_or bytes n 0) ≡ false → list_all is_digit (take (n + 1) bytes) ≡ false
not_digits bytes n h not_all = ap (list_all is_digit) (more bytes n h) ∙ list_all-append is_digit (take n bytes) (get_or bytes n 0 ∷ []) ∙ go (list_all is_digit (take n bytes))
  where
    go : (t : Bool) → (t && (is_digit (get_or bytes n 0) && true)) ≡ false
    go true = rw not_all refl
    go false = refl

second_false : (a b c : Bool) → b ≡ false → (a && (b && c)) ≡ false
second_false true b c e = rw e refl
second_false false b c e = refl

-- what isn't empty and has another byte than digits isn't the beginning of a number
no_number : (nought : Bool) (most : ℕ) (w : List ℕ) → 0 < length w → list_all is_digit w ≡ false → (is_empty w || is_number nought most w) ≡ false
no_number nought most [] some e = absurd (omega (arith, some))
no_number nought most (b ∷ w) some e = second_false (not (b == 48) || (nought && is_empty w)) (list_all is_digit (b ∷ w)) (nat_le (value_of (b ∷ w)) most) e

digit_no_sign : (b : ℕ) → is_digit b ≡ true → (b == 45) ≡ false
digit_no_sign b e = grind (arith, nat_tests, e)

last_of : (kind : NumberKind) (w : List ℕ) → 0 < length w → list_all is_digit w ≡ false → begun_after 45 (λ v. is_empty v || is_number false least v) w ≡ false → (number_set kind).begun w ≡ false
last_of number.Instants w some not_all sign = no_number false 1000000 w some not_all
last_of number.Budget w some not_all sign = no_number false 1000000 w some not_all
last_of number.Block w some not_all sign = no_number false 100000000 w some not_all
last_of number.Workers w some not_all sign = no_number false 16 w some not_all
last_of number.History w some not_all sign = no_number true 9223372036854775807 w some not_all
last_of number.Pick w some not_all sign = no_number true 15 w some not_all
last_of number.Post w some not_all sign = no_number true 15 w some not_all
last_of number.Stop w some not_all sign = no_number true 4294967295 w some not_all
last_of number.States w some not_all sign = no_number true 9223372036854775807 w some not_all
last_of number.Left w some not_all sign = no_number true 9223372036854775807 w some not_all
last_of number.Count w some not_all sign = no_number true 9223372036854775807 w some not_all
last_of number.Any w some not_all sign = let e = no_number true 9223372036854775807 w some not_all in rw (e, sign) refl

no_sign : (f : List ℕ → Bool) (b : ℕ) (w : List ℕ) → is_digit b ≡ true → begun_after 45 f (b ∷ w) ≡ false
no_sign f b w e = let g = digit_no_sign b e in rw g refl

pub digits_there : (kind : NumberKind) (bytes : List ℕ) (n : ℕ) → Run is_digit 20 bytes n → 0 < n → n < length bytes → n < 20 → (number_set kind).whole (take n bytes) ≡ true → There (number_set kind) bytes n
digits_there kind [] n run some more short whole = absurd (omega (arith, more))
digits_there kind (b ∷ bs) zero run some more short whole = absurd (omega (arith, some))
digits_there kind (b ∷ bs) (suc m) run some further short whole = record {
  taken = record {
    within = run.within;
    begun = (honest (Number kind)).complete first [] (subst (λ t. (number_set kind).whole t ≡ true) (sym (append-nil first)) whole);
    last = λ h. let k : suc m + 1 ≡ suc (m + 1) = omega arith in rw k (last_of kind (b ∷ take (m + 1) bs) (omega arith) (subst (λ (j : ℕ). list_all is_digit (take j (b ∷ bs)) ≡ false) k not_all) (no_sign (λ v. is_empty v || is_number false least v) b (take (m + 1) bs) digits.0));
  };
  whole = whole;
  more = further;
}
  where
    first : List ℕ
    first = b ∷ take m bs

    digits : (is_digit b ≡ true) × (list_all is_digit (take m bs) ≡ true)
    digits = and_both (is_digit b) (list_all is_digit (take m bs)) run.all

    not_all : list_all is_digit (take (suc m + 1) (b ∷ bs)) ≡ false
    not_all = not_digits (b ∷ bs) (suc m) further (run.last further short)

-- so does a sign
pub sign_only : (b : ℕ) (bytes : List ℕ) → 2 ≤ length bytes → get_or bytes 0 0 ≡ b → There (sign b) bytes 1
unfolding is_prefix
sign_only b [] some e = absurd (omega (arith, some))
sign_only b (c ∷ bs) some e = record { taken = sign_there b (c ∷ bs) (omega (arith, some)) e; whole = let f : (b == c) ≡ true = grind (arith, nat_tests, e) in rw f refl; more = omega (arith, some) }
