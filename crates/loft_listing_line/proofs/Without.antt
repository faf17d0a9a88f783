-- Texts in which a byte doesn't stand.
use Rattle.std.proofs.Common.{◌≡◌, ℕ, ◌≤◌, ◌==◌, Bool, true, false, not, ◌&&◌, List, [], ◌∷◌, ◌++◌, length, nat_le, refl, ap, ◌∙◌, arith}
use Rattle.std.specs.List.{list_all}
use Rattle.std.specs.Char.{is_ascii_digit}
use Rattle.std.specs.Str.{all_ascii_digits}
use Rattle.std.specs.Str.Parse.{digits_value}
use Rattle.std.specs.Fmt.{decimal}
use Rattle.std.proofs.lemmas.Fmt.{digits_decimal}
use Rattle.std.proofs.lemmas.Str.Parse.{IsNumeralModel, numerals_by_value, tells_all_ascii_digits}
use Rattle.std.proofs.lemmas.List.Folds.{list_all-append}
use Rattle.std.proofs.lemmas.Bool.Decides.{nat_tests}
use Rattle.loft_lex.specs.Bytes.{is_letter, is_name_byte, begins}
use Rattle.loft_lex.specs.Fits.{is_name}
use Rattle.loft_lex.specs.Word.{is_word}
use Rattle.loft_lex.proofs.Runs.{both, left_of, right_of}
use Rattle.loft_listing_line.specs.Cuts.{is_other, IsWithout}
use Rattle.loft_listing_line.specs.RowsFit.{IsSmall}
use Rattle.loft_listing_line.proofs.Cutting.{small_fits}

other-step : (byte b : ℕ) (class : ℕ → Bool) (t : Bool) → (b == byte) ≡ t → class byte ≡ false → class b ≡ true → not t ≡ true
other-step byte b class true is outside inside = let same : b ≡ byte = grind (arith, nat_tests) in absurd cc
other-step byte b class false is outside inside = refl

-- a byte of a class isn't one outside it
pub class_without : (class : ℕ → Bool) (byte : ℕ) (bs : List ℕ) → class byte ≡ false → list_all class bs ≡ true → IsWithout byte bs
class_without class byte [] outside all = refl
class_without class byte (b ∷ bs) outside all =
    both (is_other byte b) (list_all (is_other byte) bs) (other-step byte b class (b == byte) refl outside (left_of (class b) (list_all class bs) all))
    (class_without class byte bs outside (right_of (class b) (list_all class bs) all))

pub both_without : (byte : ℕ) (xs ys : List ℕ) → IsWithout byte xs → IsWithout byte ys → IsWithout byte (xs ++ ys)
both_without byte xs ys first rest = list_all-append (is_other byte) xs ys ∙ both (list_all (is_other byte) xs) (list_all (is_other byte) ys) first rest

all_digits : (ds : List ℕ) → list_all is_ascii_digit ds ≡ all_ascii_digits ds
all_digits [] = refl
all_digits (d ∷ ds) = ap (λ t. is_ascii_digit d && t) (all_digits ds)

own : IsNumeralModel (λ ds. all_ascii_digits ds ≡ true) (digits_value 10)
own = numerals_by_value _ tells_all_ascii_digits

pub decimal_digits : (n : ℕ) → IsSmall n → list_all is_ascii_digit (decimal n) ≡ true
decimal_digits n small = all_digits (decimal n) ∙ digits_decimal own n (small_fits n small)

-- what is no digit isn't in the text of a number
pub decimal_without : (byte n : ℕ) → IsSmall n → is_ascii_digit byte ≡ false → IsWithout byte (decimal n)
decimal_without byte n small outside = class_without is_ascii_digit byte (decimal n) outside (decimal_digits n small)

-- the parts of the test of a name
module _ (bytes : List ℕ) (is : is_name bytes ≡ true) where
  not_long : (begins is_letter bytes && list_all is_name_byte bytes && nat_le (length bytes) 64) ≡ true
  not_long = left_of (begins is_letter bytes && list_all is_name_byte bytes && nat_le (length bytes) 64) (not (is_word bytes)) is

  like_name : (begins is_letter bytes && list_all is_name_byte bytes) ≡ true
  like_name = left_of (begins is_letter bytes && list_all is_name_byte bytes) (nat_le (length bytes) 64) not_long

  pub name_begins : begins is_letter bytes ≡ true
  name_begins = left_of (begins is_letter bytes) (list_all is_name_byte bytes) like_name

  name_bytes : list_all is_name_byte bytes ≡ true
  name_bytes = right_of (begins is_letter bytes) (list_all is_name_byte bytes) like_name

  pub name_short : length bytes ≤ 64
  name_short = let small : nat_le (length bytes) 64 ≡ true = right_of (begins is_letter bytes && list_all is_name_byte bytes) (nat_le (length bytes) 64) not_long in grind (arith, nat_tests)

-- what can't stand in a name isn't in one
pub name_without : (byte : ℕ) (bytes : List ℕ) → is_name_byte byte ≡ false → is_name bytes ≡ true → IsWithout byte bytes
name_without byte bytes outside is = class_without is_name_byte byte bytes outside (name_bytes bytes is)
