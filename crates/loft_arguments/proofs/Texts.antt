-- Signs and numbers in words.
use Rattle.std.proofs.Common.{◌≡◌, ℕ, ◌<◌, ◌≤◌, ◌^◌, ◌≢◌, arith, length, get_or, Bool, true, false, List, [], ◌∷◌, refl, sym, ◌∙◌, ap, subst, Some, None, Ok, Err, Result}
use Rattle.std.specs.Prelude.{◌&&◌, ◌==◌, nat_le, slice_index, if◌then◌else◌}
use Rattle.std.specs.List.{list_any, position_or_len}
use Rattle.std.specs.Str.{all_ascii_digits}
use Rattle.std.specs.Str.Parse.{ParsesUnsigned, digits_value}
use Rattle.std.specs.Result.{result_ok}
use Rattle.std.proofs.lemmas.Bool.Decides.{nat_tests}
use Rattle.std.proofs.lemmas.Grind.{common_steps}
use Rattle.std.proofs.lemmas.Str.Parse.{IsNumeralModel, numerals_by_value, tells_all_ascii_digits, parse_plain}
use Rattle.loft_arguments.specs.Words.{is_equals_sign, is_number, number_in}

-- where no '=' is found, there is none
pub no_sign : (bytes : List ℕ) → position_or_len is_equals_sign bytes ≡ length bytes → list_any is_equals_sign bytes ≡ false
no_sign [] none = refl
no_sign (b ∷ bs) none = go (is_equals_sign b) refl (no_sign bs)
  where
    go : (sign : Bool) → is_equals_sign b ≡ sign → (position_or_len is_equals_sign bs ≡ length bs → list_any is_equals_sign bs ≡ false)
        → list_any is_equals_sign (b ∷ bs) ≡ false
    go true is rest = grind (arith, common_steps)
    go false is rest = grind (arith, common_steps)

own : IsNumeralModel (λ ds. all_ascii_digits ds ≡ true) (digits_value 10)
own = numerals_by_value _ tells_all_ascii_digits

all_digits : (word : List ℕ) → is_number word ≡ true → (all_ascii_digits word ≡ true) × (0 < length word)
all_digits [] is = absurd cc
all_digits (b ∷ bs) is = (is, omega arith)

a_number : (word : List ℕ) → all_ascii_digits word ≡ true → 0 < length word → is_number word ≡ true
a_number [] digits some = absurd (omega arith)
a_number (b ∷ bs) digits some = digits

-- where the tests hold, the word spells its digits' value
in_range : (most n : ℕ) (word : List ℕ) → is_number word ≡ true → n ≡ digits_value 10 word → nat_le 1 n ≡ true → nat_le n most ≡ true
    → Some n ≡ number_in most word
in_range most n word digits same low high = let P : ℕ → Type 0 = λ (v : ℕ). Some n ≡ (if is_number word && nat_le 1 v && nat_le v most then Some v else None) in
    subst P same (sym (ap (λ (a : Bool). if a && nat_le 1 n && nat_le n most then Some n else None) digits
    ∙ ap (λ (a : Bool). if a && nat_le n most then Some n else None) low ∙ ap (λ (a : Bool). if a then Some n else None) high))

-- a number that `parse` gives of a word without a sign in front
pub parsed : {E : Type 0} (most n : ℕ) (word : List ℕ) (r : Result ℕ E) → ParsesUnsigned 64 10 word r → get_or word 0 0 ≢ 43 → result_ok r ≡ Some n
    → 1 ≤ n → n ≤ most → Some n ≡ number_in most word
parsed {E} most n word (Ok m) h plain is low high =
    let fits = parse_plain own {E = E} 64 word (Ok m) h plain in
    let same : n ≡ digits_value 10 word = cc (fits.1) in
    in_range most n word (a_number word fits.0.0 fits.0.1) same (grind (arith, nat_tests)) (grind (arith, nat_tests))
parsed most n word (Err e) h plain is low high = absurd cc

-- a word without a sign in front that `parse` refuses
pub refused : {E : Type 0} (most : ℕ) (word : List ℕ) (r : Result ℕ E) → ParsesUnsigned 64 10 word r → most < 2 ^ 64 → get_or word 0 0 ≢ 43 → result_ok r ≡ None
    → None ≡ number_in most word
refused most word (Ok n) h small plain is = absurd cc
refused {E} most word (Err f) h small plain is =
    go (is_number word) (nat_le 1 (digits_value 10 word)) (nat_le (digits_value 10 word) most) refl refl (parse_plain own {E = E} 64 word (Err f) h plain)
  where
    go : (a b c : Bool) → is_number word ≡ a → nat_le (digits_value 10 word) most ≡ c
        → ((all_ascii_digits word ≡ true) × (0 < length word) × (digits_value 10 word < 2 ^ 64) → ⊥)
        → None ≡ (if a && b && c then Some (digits_value 10 word) else None)
    go true true true is high never = let digits = all_digits word is in absurd (never (digits.0, digits.1, grind (arith, nat_tests)))
    go true true false is high never = refl
    go true false c is high never = refl
    go false b c is high never = refl

-- the first byte is no '+'
pub no_plus : (word : List ℕ) → false ≡ (slice_index word 0 == 43) → get_or word 0 0 ≢ 43
no_plus word is same = absurd cc
