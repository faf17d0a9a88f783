-- What is found is a cut of the text.
use Rattle.std.proofs.Common.{◌≡◌, ℕ, zero, suc, ◌+◌, ◌<◌, ◌≤◌, Bool, true, false, ◌==◌, ◌&&◌, ◌||◌, nat_lt, nat_le, List, [], ◌∷◌, ◌++◌, length, take, drop, Err, pos, refl, sym, ap, subst, ◌∙◌, length-drop, length-take, arith}
use Rattle.std.proofs.lemmas.List.{take-append-drop, append-nil}
use Rattle.std.proofs.lemmas.List.Folds.{length-prefix_len}
use Rattle.std.proofs.lemmas.Bool.Decides.{nat_tests}
use Rattle.std.proofs.lemmas.Bool.{false≢true}
use Rattle.std.specs.List.{prefix_len}
use Rattle.loft_lex.specs.declared.token.TokenKind.{TokenKind}
use Rattle.loft_lex.specs.declared.token.TokenKind.TheVariants.{Name, Word, Number, Text, Sign}
use Rattle.loft_lex.specs.declared.token.LexError.TheVariants.{BadByte, OpenText, LongName, LongText, BadNumber}
use Rattle.loft_lex.specs.Bytes.{is_blank, is_digit, is_letter, is_name_byte, is_comment_byte, is_text_byte, begins, value_of, max_number}
use Rattle.loft_lex.specs.Word.{is_word}
use Rattle.loft_lex.specs.Sign.{is_sign}
use Rattle.loft_lex.specs.Fits.{is_text}
use Rattle.loft_lex.specs.Front.{Front, front, name_front, number_front, text_end, text_front, sign_of_one, sign_front, Gap, Piece, Fault}
use Rattle.loft_lex.specs.Tokens.{Found, moved, with_token, then_found, tokens_past, tokens}
use Rattle.loft_lex.specs.Cut.{Cut, IsWhole, lengthens, begins_other}
use Rattle.loft_lex.specs.Cut as cut
use Rattle.loft_lex.proofs.Steps.{token, cons_step}
use Rattle.loft_lex.proofs.Runs.{both, left_of, right_of, neither_right, none_of, either, neither_begins, take_run, run_stops}
use Rattle.loft_lex.proofs.Pieces.{by_test, FrontFits, front_fits}
use Rattle.loft_lex.proofs.Spelled.{no_sign_of_three}

-- A cut of what stands after the front makes one of the text; a fault is one.
abbrev FrontCut : ℕ → List ℕ → Front → Type 0
FrontCut b bs (Gap more) = (found : Found) → Cut (drop more bs) found → Cut (b ∷ bs) (moved (more + 1) found)
FrontCut b bs (Piece kind more) = (found : Found) → Cut (drop more bs) found → Cut (b ∷ bs) (with_token (token kind 0 (more + 1)) (moved (more + 1) found))
FrontCut b bs (Fault e) = Cut (b ∷ bs) (Err e)

parts : (b : ℕ) (bs : List ℕ) (more : ℕ) → (b ∷ take more bs) ++ drop more bs ≡ b ∷ bs
parts b bs more = ap (λ (xs : List ℕ). b ∷ xs) (take-append-drop more bs)

piece : (kind : TokenKind) (b : ℕ) (bs : List ℕ) (more : ℕ) → FrontFits b bs (Piece kind more) → IsWhole kind (b ∷ take more bs) (drop more bs) → FrontCut b bs (Piece kind more)
piece kind b bs more fits whole found c =
    let bytes = b ∷ take more bs in
    let len : length bytes ≡ more + 1 = omega (arith, length-take more bs, fits.0) in
    let one : Cut (bytes ++ drop more bs) (with_token (token kind 0 (length bytes)) (moved (length bytes) found)) = cut.token kind bytes (drop more bs) found fits.1 whole c in
    let two : Cut (b ∷ bs) (with_token (token kind 0 (length bytes)) (moved (length bytes) found)) = subst (λ (xs : List ℕ). Cut xs (with_token (token kind 0 (length bytes)) (moved (length bytes) found))) (parts b bs more) one in
    subst (λ (n : ℕ). Cut (b ∷ bs) (with_token (token kind 0 n) (moved n found))) len two

fault : (b : ℕ) (bs : List ℕ) (more : ℕ) (found : Found) → Cut ((b ∷ take more bs) ++ drop more bs) found → Cut (b ∷ bs) found
fault b bs more found c = subst (λ (xs : List ℕ). Cut xs found) (parts b bs more) c

slashes : (b : ℕ) (bs : List ℕ) → (b == 47 && begins (λ c. c == 47) bs) ≡ true → FrontCut b bs (Gap (prefix_len is_comment_byte bs))
slashes b [] h = absurd (false≢true (right_of (b == 47) false h))
slashes b (c ∷ cs) h = λ found rest.
    let first : b ≡ 47 = (let t = left_of (b == 47) (c == 47) h in grind (arith, nat_tests)) in
    let second : c ≡ 47 = (let t = right_of (b == 47) (c == 47) h in grind (arith, nat_tests)) in
    let n = prefix_len is_comment_byte cs in
    let more : prefix_len is_comment_byte (c ∷ cs) ≡ suc n = rw second (omega arith) in
    let after_slashes : Cut (drop n cs) found = rw more at rest in
    let line : length (take n cs) ≡ n = length-prefix_len is_comment_byte cs in
    let one = cut.comment (take n cs) (drop n cs) found (take_run is_comment_byte cs) (run_stops is_comment_byte cs) after_slashes in
    let text : 47 ∷ 47 ∷ (take n cs ++ drop n cs) ≡ b ∷ c ∷ cs = rw (take-append-drop n cs, first, second) refl in
    let len : 2 + length (take n cs) ≡ prefix_len is_comment_byte (c ∷ cs) + 1 = omega (arith, line, more) in
    subst (λ (k : ℕ). Cut (b ∷ c ∷ cs) (moved k found)) len (subst (λ (xs : List ℕ). Cut xs (moved (2 + length (take n cs)) found)) text one)

-- what fits at the front makes a cut
abbrev Leads : ℕ → List ℕ → Front → Type 0
Leads b bs f = FrontFits b bs f → FrontCut b bs f

name_cut : (b : ℕ) (bs : List ℕ) → is_letter b ≡ true → Leads b bs (name_front b bs)
unfolding name_front
name_cut b bs letter =
    let more = prefix_len is_name_byte bs in
    let first : is_name_byte b ≡ true = rw letter refl in
    let bytes : length (take more bs) ≡ more = length-prefix_len is_name_byte bs in
    by_test (Leads b bs) (nat_lt 64 (more + 1)) _ _
    (λ long _.
    let many : 64 < length (b ∷ take more bs) = grind (arith, nat_tests) in
    fault b bs more (Err (LongName 0)) (cut.long_name (b ∷ take more bs) (drop more bs) letter (both _ _ first (take_run is_name_byte bs)) many))
    (λ _. by_test (Leads b bs) (is_word (b ∷ take more bs)) _ _
    (λ _ fits. piece Word b bs more fits (run_stops is_name_byte bs))
    (λ _ fits. piece Name b bs more fits (run_stops is_name_byte bs)))

number_cut : (b : ℕ) (bs : List ℕ) → is_digit b ≡ true → Leads b bs (number_front b bs)
unfolding number_front
number_cut b bs digit =
    let more = prefix_len is_digit bs in
    let bytes = b ∷ take more bs in
    let rest = drop more bs in
    let digits = both _ _ digit (take_run is_digit bs) in
    by_test (Leads b bs) (nat_lt max_number (value_of bytes) || begins is_letter rest) _ _
    (λ bad _. either (nat_lt max_number (value_of bytes)) (begins is_letter rest) bad
    (λ large.
    let many : max_number < value_of bytes = grind (arith, nat_tests) in
    fault b bs more (Err (BadNumber 0)) (cut.large_number bytes rest digit digits (run_stops is_digit bs) many))
    (λ letter. fault b bs more (Err (BadNumber 0)) (cut.number_and_letter bytes rest digit digits letter)))
    (λ good fits. piece (Number (pos (value_of bytes))) b bs more fits (neither_begins is_letter is_digit rest (neither_right _ _ good) (run_stops is_digit bs)))

inside_is : (bs : List ℕ) → nat_lt 120 (prefix_len is_text_byte bs) ≡ false → is_text (take (prefix_len is_text_byte bs) bs) ≡ true
inside_is bs short =
    let inside = take (prefix_len is_text_byte bs) bs in
    let len : length inside ≡ prefix_len is_text_byte bs = length-prefix_len is_text_byte bs in
    let fits : nat_le (length inside) 120 ≡ true = grind (arith, nat_tests) in
    both _ _ (take_run is_text_byte bs) fits

closing : (bs rest : List ℕ) → nat_lt 120 (prefix_len is_text_byte bs) ≡ false → drop (prefix_len is_text_byte bs) bs ≡ rest → Leads 34 bs (text_end (prefix_len is_text_byte bs) rest)
unfolding text_end
closing bs [] short e = λ _.
    let n = prefix_len is_text_byte bs in
    let whole : take n bs ≡ bs = sym (append-nil (take n bs)) ∙ ap (λ (xs : List ℕ). take n bs ++ xs) (sym e) ∙ take-append-drop n bs in
    subst (λ (xs : List ℕ). Cut (34 ∷ xs) (Err (OpenText 0))) whole (cut.text_to_end (take n bs) (inside_is bs short))
closing bs (c ∷ cs) short e =
    let n = prefix_len is_text_byte bs in
    let text : take n bs ++ c ∷ cs ≡ bs = ap (λ (xs : List ℕ). take n bs ++ xs) (sym e) ∙ take-append-drop n bs in
    by_test (Leads 34 bs) (c == 34) _ _
    (λ _ fits. piece Text 34 bs (n + 1) fits tt)
    (λ no_quote. by_test (Leads 34 bs) (c == 10) _ _
    (λ line_feed _.
    let is_line_feed : c ≡ 10 = grind (arith, nat_tests) in
    let to_line_feed : take n bs ++ 10 ∷ cs ≡ bs = ap (λ (x : ℕ). take n bs ++ x ∷ cs) (sym is_line_feed) ∙ text in
    subst (λ (xs : List ℕ). Cut (34 ∷ xs) (Err (OpenText 0))) to_line_feed (cut.text_to_line_feed (take n bs) cs (inside_is bs short)))
    (λ no_line_feed _.
    let stops : begins is_text_byte (c ∷ cs) ≡ false = subst (λ (xs : List ℕ). begins is_text_byte xs ≡ false) e (run_stops is_text_byte bs) in
    let bad = none_of _ _ (none_of _ _ stops no_quote) no_line_feed in
    let len : 1 + length (take n bs) ≡ n + 1 = omega (arith, length-prefix_len is_text_byte bs) in
    subst (λ (k : ℕ). Cut (34 ∷ bs) (Err (BadByte k))) len (subst (λ (xs : List ℕ). Cut (34 ∷ xs) (Err (BadByte (1 + length (take n bs))))) text (cut.bad_byte_inside (take n bs) c cs (inside_is bs short) bad))))

text_cut : (bs : List ℕ) → Leads 34 bs (text_front bs)
unfolding text_front
text_cut bs =
    let n = prefix_len is_text_byte bs in
    by_test (Leads 34 bs) (nat_lt 120 n) _ _
    (λ long _.
    let bytes : length (take n bs) ≡ n = length-prefix_len is_text_byte bs in
    let many : 120 < length (take n bs) = grind (arith, nat_tests) in
    subst (λ (xs : List ℕ). Cut (34 ∷ xs) (Err (LongText 0))) (take-append-drop n bs) (cut.long_text (take n bs) (drop n bs) (take_run is_text_byte bs) many))
    (λ short. closing bs _ short refl)

one_cut : (b : ℕ) (bs : List ℕ) → begins_other b ≡ false → begins (lengthens (b ∷ [])) bs ≡ false → Leads b bs (sign_of_one b)
unfolding sign_of_one
one_cut b bs other whole = by_test (Leads b bs) (is_sign (b ∷ [])) _ _
    (λ _ fits. piece Sign b bs 0 fits whole)
    (λ no_sign _. cut.bad_byte b bs other no_sign whole)

no_slashes : (p q : Bool) → (p && q) ≡ false → (p && (q && true)) ≡ false
no_slashes true true h = h
no_slashes true false h = refl
no_slashes false q h = refl

no_third : (p q : Bool) → (p && (q && false)) ≡ false
no_third true true = refl
no_third true false = refl
no_third false q = refl

two_are_whole : (b c : ℕ) (cs : List ℕ) → begins (lengthens (b ∷ c ∷ [])) cs ≡ false
two_are_whole b c [] = refl
two_are_whole b c (d ∷ ds) = none_of _ _ (no_sign_of_three b c d) (no_third (b == 47) (c == 47))

sign_cut : (b : ℕ) (bs : List ℕ) → begins_other b ≡ false → (b == 47 && begins (λ c. c == 47) bs) ≡ false → Leads b bs (sign_front b bs)
unfolding sign_front
sign_cut b [] other no_comment = one_cut b [] other refl
sign_cut b (c ∷ cs) other no_comment = by_test (Leads b (c ∷ cs)) (is_sign (b ∷ c ∷ [])) _ _
    (λ _ fits. piece Sign b (c ∷ cs) 1 fits (two_are_whole b c cs))
    (λ no_sign. one_cut b (c ∷ cs) other (none_of _ _ no_sign (no_slashes (b == 47) (c == 47) no_comment)))

front_cut : (b : ℕ) (bs : List ℕ) → Leads b bs (front b bs)
unfolding front
front_cut b bs =
    let P : Front → Type 0 = Leads b bs in
    by_test P (is_blank b) _ _ (λ blank _ found c. cut.blank b bs found blank c) (λ no_blank.
    by_test P (b == 47 && begins (λ c. c == 47) bs) _ _ (λ comment _. slashes b bs comment) (λ no_comment.
    by_test P (is_letter b) _ _ (name_cut b bs) (λ no_letter.
    by_test P (is_digit b) _ _ (number_cut b bs) (λ no_digit.
    by_test P (b == 34) _ _
    (λ quote. let e : b ≡ 34 = grind (arith, nat_tests) in subst (λ (x : ℕ). Leads x bs (text_front bs)) (sym e) (text_cut bs))
    (λ no_quote. sign_cut b bs (none_of _ _ (none_of _ _ (none_of _ _ no_blank no_letter) no_digit) no_quote) no_comment)))))

lead : (b : ℕ) (bs : List ℕ) (f : Front) → FrontCut b bs f → ((more : ℕ) → Cut (drop more bs) (tokens (drop more bs))) → Cut (b ∷ bs) (then_found f (λ more. moved (more + 1) (tokens (drop more bs))))
lead b bs (Gap more) c rest = c (tokens (drop more bs)) (rest more)
lead b bs (Piece kind more) c rest = c (tokens (drop more bs)) (rest more)
lead b bs (Fault e) c rest = c

pub sound : (n : ℕ) (bs : List ℕ) → length bs ≤ n → Cut bs (tokens bs)
unfolding tokens_past
sound zero [] h = cut.nothing
sound (suc n) [] h = cut.nothing
sound zero (b ∷ bs) h = absurd (omega arith)
sound (suc n) (b ∷ bs) h = subst (Cut (b ∷ bs)) (sym (cons_step b bs)) (lead b bs (front b bs) (front_cut b bs (front_fits b bs)) (λ more. sound n (drop more bs) (omega (arith, length-drop more bs))))
