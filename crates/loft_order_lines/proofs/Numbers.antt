-- Numbers that are read from their digits.
use Rattle.std.proofs.Common.{◌≡◌, ℕ, ◌^◌, ◌<◌, ℤ, pos, negsuc, List, Option, Some, None, Result, Ok, Err, sym, ap, subst, ◌∙◌, to_z, of_z}
use Rattle.std.specs.Prelude.{MatchResult}
use Rattle.std.specs.Result.{result_ok}
use Rattle.std.specs.Fmt.{decimal, signed_decimal}
use Rattle.std.specs.Int.{w64}
use Rattle.std.specs.Int.RustNames.{FitsSigned}
use Rattle.std.specs.Int.Signed.{mag}
use Rattle.std.specs.Str.{IsUtf8}
use Rattle.std.specs.Str.Parse.{ParsesUnsigned, ParsesSigned}
use Rattle.std.proofs.lemmas.Fmt.{IsAscii-decimal, parse-decimal, IsAscii-signed, parse-signed_decimal}
use Rattle.std.proofs.lemmas.Str.{IsUtf8-from_ascii}
use Rattle.std.proofs.lemmas.Int.{to_z-of_z}
use Rattle.loft_order_lines.specs.Texts.{NumberHasText}

-- digits are never refused as text
pub is_text : {S E : Type 0} (A : S → Type 0) (V : E → Type 0) (d : List ℕ) (r : Result S E) → IsUtf8 d
    → MatchResult r A (λ e. (¬ (IsUtf8 d)) × V e) → result_ok r ≡ None → ⊥
is_text A V d (Ok s) is cases none = cc
is_text A V d (Err e) is cases none = cases.0 is

-- the text has the bytes that were given
pub same_text : {S E : Type 0} (bytes_of : S → List ℕ) (V : E → Type 0) (d : List ℕ) (r : Result S E) (s : S)
    → MatchResult r (λ t. (bytes_of t ≡ d) × IsUtf8 d) V → result_ok r ≡ Some s → bytes_of s ≡ d
same_text bytes_of V d (Ok t) s cases is = let e : t ≡ s = cc in subst (λ u. bytes_of u ≡ d) e cases.0
same_text bytes_of V d (Err e) s cases is = absurd cc

pub decimal_utf8 : (n : ℕ) (d : List ℕ) → n < 2 ^ 64 → d ≡ decimal n → IsUtf8 d
decimal_utf8 n d small e = subst IsUtf8 (sym e) (IsUtf8-from_ascii (decimal n) (IsAscii-decimal n small))

pub number_read : {E : Type 0} (n : ℕ) (bytes : List ℕ) (r : Result ℕ E) (found : Option ℕ) → n < 2 ^ 64 → bytes ≡ decimal n → ParsesUnsigned 64 10 bytes r
    → found ≡ result_ok r → found ≡ Some n
number_read n bytes r found small same parses is = is ∙ ap result_ok (parse-decimal 64 n bytes r small small same parses)

pub number_fits : (z : ℤ) → NumberHasText z → FitsSigned w64 z
number_fits (pos n) p = record { sfits = p }
number_fits (negsuc n) p = record { sfits = p }

number_small : (z : ℤ) → NumberHasText z → mag z < 2 ^ 63
number_small (pos n) p = p
number_small (negsuc n) p = p

pub signed_utf8 : (z : ℤ) (d : List ℕ) → NumberHasText z → d ≡ signed_decimal z → IsUtf8 d
signed_utf8 z d small e = subst IsUtf8 (sym e) (IsUtf8-from_ascii (signed_decimal z) (IsAscii-signed z (number_small z small)))

pub integer_read : {E : Type 0} (z : ℤ) (bytes : List ℕ) (r : Result ℤ E) (found : Option ℤ) → NumberHasText z → bytes ≡ signed_decimal z → ParsesSigned w64 10 bytes r
    → found ≡ result_ok r → found ≡ Some z
integer_read z bytes r found small same parses is = is ∙ ap result_ok (parse-signed_decimal w64 z bytes r (number_fits z small) (number_small z small) same parses)

-- a number of the type has a text
pub fits_text : (z : ℤ) → FitsSigned w64 z → NumberHasText z
fits_text (pos n) p = p.sfits
fits_text (negsuc n) p = p.sfits

-- a number is what its bits say
pub bits_same : (z n : ℤ) → NumberHasText n → z ≡ n → to_z w64 (of_z w64 z) ≡ n
bits_same z n small e = to_z-of_z w64 z (subst (FitsSigned w64) (sym e) (number_fits n small)) ∙ e
