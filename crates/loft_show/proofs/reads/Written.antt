-- How words, signs, names, numbers and texts are written.
use Rattle.std.proofs.Common.{◌≡◌, ℕ, ◌+◌, ◌-◌, ◌/◌, ◌%◌, ◌≤◌, ◌<◌, Bool, true, false, not, ◌==◌, ◌||◌, ℤ, pos, List, [], ◌∷◌, ◌++◌, length, refl, sym, ap, subst, length-append, arith, inl, inr, ◌⊎◌}
use Rattle.std.specs.Prelude.{IsTrue}
use Rattle.std.specs.Fmt.{decimal}
use Rattle.std.specs.List.{list_all}
use Rattle.std.proofs.lemmas.Fmt.{decimal_by_steps}
use Rattle.std.proofs.lemmas.List.{take_at}
use Rattle.std.proofs.lemmas.List.Sums.{fold-append}
use Rattle.std.proofs.lemmas.Bool.Decides.{nat_tests}
use Rattle.loft_lex.specs.declared.sign.Sign.{Sign}
use Rattle.loft_lex.specs.declared.sign.Sign.TheVariants as s
use Rattle.loft_lex.specs.declared.token.TokenKind.{TokenKind}
use Rattle.loft_lex.specs.declared.token.TokenKind.TheVariants as kind
use Rattle.loft_lex.specs.Bytes.{is_blank, is_digit, is_letter, is_name_byte, begins, value_of, max_number}
use Rattle.loft_lex.specs.Word as words
use Rattle.loft_lex.specs.Sign as signs
use Rattle.loft_lex.specs.Symbol.{What, Named, Keyword, Numeral, Quoted, Mark, Unreadable, keyword, mark, what_of}
use Rattle.loft_lex.specs.Fits.{is_name, is_text, between_quotes, IsNumber, IsOfKind}
use Rattle.loft_lex.specs.Cut.{lengthens, IsWhole, begins_other}
use Rattle.loft_lex.proofs.Runs.{both, left_of, right_of, none_of, neither_left, neither_right}
use Rattle.loft_lex.proofs.Pieces.{quoted}
use Rattle.loft_lex.proofs.Words.{word_of-spelling}
use Rattle.loft_lex.proofs.Signs.{sign_of-spelling}
use Rattle.loft_lex.proofs.Spelled.{word_like_name, sign_parts}
use Rattle.loft_tree.specs.Fits.{NumberFits}
use Rattle.loft_show.specs.Canon.{spelled}

-- names, numbers and texts are those of the language
abbrev pub WhatFits : What → Type 0
WhatFits (Named bytes) = IsTrue (is_name bytes)
WhatFits (Keyword v) = Unit {0}
WhatFits (Numeral value) = NumberFits value
WhatFits (Quoted bytes) = IsTrue (is_text bytes)
WhatFits (Mark v) = Unit {0}
WhatFits Unreadable = ⊥

-- the kind of its token
abbrev pub kind_of : What → TokenKind
kind_of (Named bytes) = kind.Name
kind_of (Keyword v) = kind.Word
kind_of (Numeral value) = kind.Number value
kind_of (Quoted bytes) = kind.Text
kind_of (Mark v) = kind.Sign
kind_of Unreadable = kind.Sign

-- ---- numbers

-- digits that spell n
record Digits (n : ℕ) (ds : List ℕ) : Type 0 where
  first : begins is_digit ds ≡ true
  digits : list_all is_digit ds ≡ true
  value : value_of ds ≡ n

-- the digit d as a byte
digit_is : (d : ℕ) → d < 10 → is_digit (48 + d) ≡ true
digit_is d h = grind (arith, nat_tests)

one_digit : (n : ℕ) → n < 10 → Digits n ((48 + n) ∷ [])
one_digit n h = record { first = digit_is n h; digits = both _ true (digit_is n h) refl; value = omega arith }

first_stays : (test : ℕ → Bool) (ds es : List ℕ) → begins test ds ≡ true → begins test (ds ++ es) ≡ true
first_stays test [] es h = absurd cc
first_stays test (d ∷ ds) es h = h

all_push : (test : ℕ → Bool) (ds : List ℕ) (d : ℕ) → list_all test ds ≡ true → test d ≡ true → list_all test (ds ++ d ∷ []) ≡ true
all_push test [] d all h = both _ true h refl
all_push test (e ∷ ds) d all h = both (test e) (list_all test (ds ++ d ∷ [])) (left_of (test e) (list_all test ds) all) (all_push test ds d (right_of (test e) (list_all test ds) all) h)

more_digits : (n : ℕ) (ds : List ℕ) → 10 ≤ n → Digits (n / 10) ds → Digits n (ds ++ ((48 + n % 10) ∷ []))
more_digits n ds h m = record {
  first = first_stays is_digit ds ((48 + n % 10) ∷ []) m.first;
  digits = all_push is_digit ds (48 + n % 10) m.digits (digit_is (n % 10) (omega arith));
  value = rw (fold-append, m.value) (omega arith);
}

decimal_digits : (n : ℕ) → n ≤ max_number → Digits n (decimal n)
decimal_digits n h = decimal_by_steps Digits one_digit more_digits n (omega arith)

number_written : (value : ℤ) → NumberFits value → IsNumber value (spelled (Numeral value))
number_written value (n, small, e) = subst (λ v. IsNumber v (spelled (Numeral v))) (sym e) (let d = decimal_digits n small in record { first = d.first; digits = d.digits; spelled = ap pos (sym d.value); small = omega (arith, d.value) })

between : (inside : List ℕ) → between_quotes (34 ∷ (inside ++ 34 ∷ [])) ≡ inside
between inside =
    let e : length (34 ∷ (inside ++ 34 ∷ [])) - 2 ≡ length inside = omega (arith, length-append inside (34 ∷ [])) in
    rw e (take_at inside (34 ∷ []) (length inside) refl)

-- the bytes are a token of its kind
pub written : (w : What) → WhatFits w → IsOfKind (kind_of w) (spelled w)
written (Named bytes) fits = fits
written (Keyword v) fits = rw (word_of-spelling v) refl
written (Numeral value) fits = number_written value fits
written (Quoted bytes) fits = quoted bytes fits
written (Mark v) fits = rw (sign_of-spelling v) refl
written Unreadable fits = absurd fits

-- that token is read as what was written
pub read_back : (w : What) → WhatFits w → what_of (kind_of w) (spelled w) ≡ w
read_back (Named bytes) fits = refl
read_back (Keyword v) fits = ap keyword (word_of-spelling v)
read_back (Numeral value) fits = refl
read_back (Quoted bytes) fits = ap Quoted (between bytes)
read_back (Mark v) fits = ap mark (sign_of-spelling v)
read_back Unreadable fits = absurd fits

-- ---- what may follow

-- a byte that makes no longer sign after any sign
longer_not : (v : Sign) (b : ℕ) → (61 == b) ≡ false → (b == 47) ≡ false → lengthens (signs.spelling v) b ≡ false
unfolding signs.sign_of
longer_not s.Semicolon b e f = refl
longer_not s.Comma b e f = refl
longer_not s.Dot b e f = refl
longer_not s.Open b e f = refl
longer_not s.Close b e f = refl
longer_not s.OpenBrace b e f = refl
longer_not s.CloseBrace b e f = refl
longer_not s.Equals b e f = rw e refl
longer_not s.Plus b e f = refl
longer_not s.Minus b e f = refl
longer_not s.Star b e f = refl
longer_not s.Slash b e f = rw f refl
longer_not s.Percent b e f = refl
longer_not s.Not b e f = rw e refl
longer_not s.Same b e f = refl
longer_not s.Differs b e f = refl
longer_not s.Less b e f = rw e refl
longer_not s.LessOrSame b e f = refl
longer_not s.Greater b e f = rw e refl
longer_not s.GreaterOrSame b e f = refl
longer_not s.And b e f = refl
longer_not s.Or b e f = refl

-- what follows makes no sign longer
pub record Quiet (rest : List ℕ) : Type 0 where
  pub no_equals : begins (λ b. 61 == b) rest ≡ false
  pub no_slash : begins (λ b. b == 47) rest ≡ false

-- what follows goes on with no name, word or number
abbrev pub NoName : List ℕ → Type 0
NoName rest = begins is_name_byte rest ≡ false

quiet_sign : (v : Sign) (rest : List ℕ) → Quiet rest → begins (lengthens (signs.spelling v)) rest ≡ false
quiet_sign v [] q = refl
quiet_sign v (b ∷ rest) q = longer_not v b q.no_equals q.no_slash

abbrev pub is_mark : What → Bool
is_mark (Named bytes) = false
is_mark (Keyword v) = false
is_mark (Numeral value) = false
is_mark (Quoted bytes) = false
is_mark (Mark v) = true
is_mark Unreadable = false

-- the token goes no further
pub goes_no_further : (w : What) (rest : List ℕ) → WhatFits w → Quiet rest → (is_mark w ≡ true) ⊎ NoName rest → IsWhole (kind_of w) (spelled w) rest
goes_no_further (Named bytes) rest fits q (inl m) = absurd cc
goes_no_further (Named bytes) rest fits q (inr e) = e
goes_no_further (Keyword v) rest fits q (inl m) = absurd cc
goes_no_further (Keyword v) rest fits q (inr e) = e
goes_no_further (Numeral value) rest fits q (inl m) = absurd cc
goes_no_further (Numeral value) rest fits q (inr e) = e
goes_no_further (Quoted bytes) rest fits q h = tt
goes_no_further (Mark v) rest fits q h = quiet_sign v rest q
goes_no_further Unreadable rest fits q h = absurd fits

-- ---- what follows may be a blank

pub blank_quiet : (b : ℕ) (rest : List ℕ) → is_blank b ≡ true → Quiet (b ∷ rest)
blank_quiet b rest h = record { no_equals = not_equals b h; no_slash = not_slash b h }
  where
    not_equals : (b : ℕ) → is_blank b ≡ true → (61 == b) ≡ false
    not_equals b h = grind (arith, nat_tests)

    not_slash : (b : ℕ) → is_blank b ≡ true → (b == 47) ≡ false
    not_slash b h = grind (arith, nat_tests)

pub blank_no_name : (b : ℕ) → is_blank b ≡ true → is_name_byte b ≡ false
blank_no_name b h = grind (arith, nat_tests)

-- ---- what follows may be written

-- what is written begins with no equals sign and no slash
abbrev pub is_soft : What → Bool
is_soft (Named bytes) = true
is_soft (Keyword v) = true
is_soft (Numeral value) = true
is_soft (Quoted bytes) = true
is_soft (Mark v) = begins (λ b. not (61 == b || b == 47)) (signs.spelling v)
is_soft Unreadable = false

class_quiet : (class : ℕ → Bool) (bytes rest : List ℕ) → ((b : ℕ) → class b ≡ true → ((61 == b) ≡ false) × ((b == 47) ≡ false)) → begins class bytes ≡ true → Quiet (bytes ++ rest)
class_quiet class [] rest h e = absurd cc
class_quiet class (b ∷ bytes) rest h e = let p = h b e in record { no_equals = p.0; no_slash = p.1 }

letter_quiet : (b : ℕ) → is_letter b ≡ true → ((61 == b) ≡ false) × ((b == 47) ≡ false)
letter_quiet b h = (grind (arith, nat_tests), grind (arith, nat_tests))

digit_quiet : (b : ℕ) → is_digit b ≡ true → ((61 == b) ≡ false) × ((b == 47) ≡ false)
digit_quiet b h = (grind (arith, nat_tests), grind (arith, nat_tests))

not_quiet : (b : ℕ) → not (61 == b || b == 47) ≡ true → ((61 == b) ≡ false) × ((b == 47) ≡ false)
not_quiet b h = parts (61 == b) (b == 47) h
  where
    parts : (p q : Bool) → not (p || q) ≡ true → (p ≡ false) × (q ≡ false)
    parts true q h = absurd cc
    parts false true h = absurd cc
    parts false false h = (refl, refl)

-- what is written so makes no sign before it longer
pub soft_quiet : (w : What) (rest : List ℕ) → WhatFits w → is_soft w ≡ true → Quiet (spelled w ++ rest)
soft_quiet (Named bytes) rest fits soft = class_quiet is_letter bytes rest letter_quiet (left_of _ _ (left_of _ _ (left_of _ _ fits)))
soft_quiet (Keyword v) rest fits soft = class_quiet is_letter (words.spelling v) rest letter_quiet (left_of _ _ (word_like_name (words.spelling v) (written (Keyword v) tt)))
soft_quiet (Numeral value) rest fits soft = class_quiet is_digit (spelled (Numeral value)) rest digit_quiet (number_written value fits).first
soft_quiet (Quoted bytes) rest fits soft = record { no_equals = refl; no_slash = refl }
soft_quiet (Mark v) rest fits soft = class_quiet (λ b. not (61 == b || b == 47)) (signs.spelling v) rest not_quiet soft
soft_quiet Unreadable rest fits soft = absurd cc

no_name : (b : ℕ) → not (begins_other b) ≡ true → is_name_byte b ≡ false
no_name b h = by_test (begins_other b) refl h
  where
    by_test : (other : Bool) → begins_other b ≡ other → not other ≡ true → is_name_byte b ≡ false
    by_test true e h = absurd cc
    by_test false e h =
        let three : (is_blank b || is_letter b || is_digit b) ≡ false = neither_left (is_blank b || is_letter b || is_digit b) (b == 34) e in
        let two : (is_blank b || is_letter b) ≡ false = neither_left (is_blank b || is_letter b) (is_digit b) three in
        none_of (is_letter b) (is_digit b) (neither_right (is_blank b) (is_letter b) two) (neither_right (is_blank b || is_letter b) (is_digit b) three)

no_name_first : (bytes rest : List ℕ) → begins (λ b. not (begins_other b)) bytes ≡ true → NoName (bytes ++ rest)
no_name_first [] rest h = absurd cc
no_name_first (b ∷ bytes) rest h = no_name b h

-- a sign goes on with no name, word or number
pub mark_no_name : (v : Sign) (rest : List ℕ) → NoName (spelled (Mark v) ++ rest)
mark_no_name v rest = no_name_first (signs.spelling v) rest (sign_parts (signs.spelling v) (written (Mark v) tt)).0
