-- The bytes of a token are what its kind says.
use Rattle.std.proofs.Common.{◌≡◌, ℕ, ◌+◌, ◌-◌, ◌≤◌, Bool, true, false, not, ◌==◌, ◌&&◌, ◌||◌, if◌then◌else◌, nat_lt, nat_le, List, [], ◌∷◌, ◌++◌, length, take, drop, refl, sym, ap, subst, ◌∙◌, length-append, length-drop, arith}
use Rattle.std.proofs.Math.Seq.{take-append_seam}
use Rattle.std.proofs.lemmas.List.Folds.{length-prefix_len}
use Rattle.std.proofs.lemmas.List.Sums.{prefix_len-le-length}
use Rattle.std.proofs.lemmas.Bool.Decides.{nat_tests}
use Rattle.std.specs.List.{prefix_len, list_all}
use Rattle.loft_lex.proofs.Runs.{both, neither_left, take_run, take_one_more}
use Rattle.loft_lex.specs.Bytes.{is_blank, is_digit, is_letter, is_name_byte, is_text_byte, begins, value_of, max_number}
use Rattle.loft_lex.specs.Word.{is_word}
use Rattle.loft_lex.specs.Sign.{is_sign}
use Rattle.loft_lex.specs.Fits.{is_name, is_text, between_quotes, IsQuoted, IsOfKind}
use Rattle.loft_lex.specs.Front.{Front, front, name_front, number_front, text_end, text_front, sign_of_one, sign_front, Gap, Piece, Fault}

-- the bytes of a token at the front are what its kind says
abbrev pub FrontFits : ℕ → List ℕ → Front → Type 0
FrontFits b bs (Gap more) = Unit {0}
FrontFits b bs (Piece kind more) = (more ≤ length bs) × IsOfKind kind (b ∷ take more bs)
FrontFits b bs (Fault e) = Unit {0}

pub by_test : (P : Front → Type 0) (test : Bool) (x y : Front) → (test ≡ true → P x) → (test ≡ false → P y) → P (if test then x else y)
by_test P true x y first second = first refl
by_test P false x y first second = second refl

pub name_bytes : (b : ℕ) (bs : List ℕ) → is_letter b ≡ true → nat_lt 64 (prefix_len is_name_byte bs + 1) ≡ false → is_word (b ∷ take (prefix_len is_name_byte bs) bs) ≡ false → is_name (b ∷ take (prefix_len is_name_byte bs) bs) ≡ true
name_bytes b bs letter short free =
    let more = prefix_len is_name_byte bs in
    let first : is_name_byte b ≡ true = rw letter refl in
    let len : length (take more bs) ≡ more = length-prefix_len is_name_byte bs in
    let fits : nat_le (length (b ∷ take more bs)) 64 ≡ true = grind (arith, nat_tests) in
    let no_word : not (is_word (b ∷ take more bs)) ≡ true = rw free refl in
    both _ _ (both _ _ (both _ _ letter (both _ _ first (take_run is_name_byte bs))) fits) no_word

name_fits : (b : ℕ) (bs : List ℕ) → is_letter b ≡ true → FrontFits b bs (name_front b bs)
unfolding name_front
name_fits b bs letter =
    let more = prefix_len is_name_byte bs in
    by_test (FrontFits b bs) (nat_lt 64 (more + 1)) _ _ (λ _. tt) (λ short.
    by_test (FrontFits b bs) (is_word (b ∷ take more bs)) _ _
    (λ word. (prefix_len-le-length is_name_byte bs, word))
    (λ free. (prefix_len-le-length is_name_byte bs, name_bytes b bs letter short free)))

number_fits : (b : ℕ) (bs : List ℕ) → is_digit b ≡ true → FrontFits b bs (number_front b bs)
unfolding number_front
number_fits b bs digit =
    let more = prefix_len is_digit bs in
    let value = value_of (b ∷ take more bs) in
    by_test (FrontFits b bs) (nat_lt max_number value || begins is_letter (drop more bs)) _ _ (λ _. tt) (λ good.
    let small : nat_lt max_number value ≡ false = neither_left _ _ good in
    (prefix_len-le-length is_digit bs, record { first = digit; digits = both _ _ digit (take_run is_digit bs); spelled = refl; small = grind (arith, nat_tests) }))

between : (inside : List ℕ) → between_quotes (34 ∷ (inside ++ 34 ∷ [])) ≡ inside
between inside =
    let e : length (34 ∷ (inside ++ 34 ∷ [])) - 2 ≡ length inside = omega (arith, length-append inside (34 ∷ [])) in
    rw e (take-append_seam inside (34 ∷ []))

pub quoted : (inside : List ℕ) → is_text inside ≡ true → IsQuoted (34 ∷ (inside ++ 34 ∷ []))
quoted inside text = record { quotes = rw (between inside) refl; inside = rw (between inside) text }

closing : (bs rest : List ℕ) → nat_lt 120 (prefix_len is_text_byte bs) ≡ false → drop (prefix_len is_text_byte bs) bs ≡ rest → FrontFits 34 bs (text_end (prefix_len is_text_byte bs) rest)
unfolding text_end
closing bs [] short e = tt
closing bs (c ∷ cs) short e =
    let inside = prefix_len is_text_byte bs in
    by_test (FrontFits 34 bs) (c == 34) _ _
    (λ quote.
    let is_quote : c ≡ 34 = grind (arith, nat_tests) in
    let len : length (take inside bs) ≡ inside = length-prefix_len is_text_byte bs in
    let fits : nat_le (length (take inside bs)) 120 ≡ true = grind (arith, nat_tests) in
    let text = both (list_all is_text_byte (take inside bs)) (nat_le (length (take inside bs)) 120) (take_run is_text_byte bs) fits in
    let bytes : take (inside + 1) bs ≡ take inside bs ++ 34 ∷ [] = take_one_more inside bs c cs e ∙ ap (λ x. take inside bs ++ x ∷ []) is_quote in
    (omega (arith, length-drop inside bs, ap length e), subst (λ (xs : List ℕ). IsQuoted (34 ∷ xs)) (sym bytes) (quoted (take inside bs) text)))
    (λ _. by_test (FrontFits 34 bs) (c == 10) _ _ (λ _. tt) (λ _. tt))

text_fits : (bs : List ℕ) → FrontFits 34 bs (text_front bs)
unfolding text_front
text_fits bs = by_test (FrontFits 34 bs) (nat_lt 120 (prefix_len is_text_byte bs)) _ _ (λ _. tt) (λ short. closing bs _ short refl)

one_fits : (b : ℕ) (bs : List ℕ) → FrontFits b bs (sign_of_one b)
unfolding sign_of_one
one_fits b bs = by_test (FrontFits b bs) (is_sign (b ∷ [])) _ _ (λ sign. (omega arith, sign)) (λ _. tt)

sign_fits : (b : ℕ) (bs : List ℕ) → FrontFits b bs (sign_front b bs)
unfolding sign_front
sign_fits b [] = one_fits b []
sign_fits b (c ∷ cs) = by_test (FrontFits b (c ∷ cs)) (is_sign (b ∷ c ∷ [])) _ _ (λ sign. (omega arith, sign)) (λ _. one_fits b (c ∷ cs))

pub front_fits : (b : ℕ) (bs : List ℕ) → FrontFits b bs (front b bs)
unfolding front
front_fits b bs =
    let P : Front → Type 0 = FrontFits b bs in
    by_test P (is_blank b) _ _ (λ _. tt) (λ _.
    by_test P (b == 47 && begins (λ c. c == 47) bs) _ _ (λ _. tt) (λ _.
    by_test P (is_letter b) _ _ (name_fits b bs) (λ _.
    by_test P (is_digit b) _ _ (number_fits b bs) (λ _.
    by_test P (b == 34) _ _
    (λ quote. let e : b ≡ 34 = grind (arith, nat_tests) in subst (λ (x : ℕ). FrontFits x bs (text_front bs)) (sym e) (text_fits bs))
    (λ _. sign_fits b bs)))))
