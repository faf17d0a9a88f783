-- A cut of the text is what is found, and the other way round.
use Rattle.std.proofs.Common.{◌≡◌, ◌↔◌, ℕ, suc, ◌+◌, ◌<◌, ◌≤◌, Bool, true, false, not, ◌==◌, ◌&&◌, ◌||◌, nat_lt, nat_le, if◌then◌else◌, List, [], ◌∷◌, ◌++◌, length, drop, Ok, Err, pos, codes, refl, sym, ap, subst, ◌∙◌, append_assoc, length-append, arith}
use Rattle.std.proofs.Math.Seq.{take-append_seam, drop-append_seam}
use Rattle.std.proofs.lemmas.List.{append-nil}
use Rattle.std.proofs.lemmas.Bool.{false≢true}
use Rattle.std.proofs.lemmas.Bool.Decides.{nat_tests}
use Rattle.std.specs.List.{prefix_len, list_all}
use Rattle.std.specs.Str.{bytes_eq}
use Rattle.loft_lex.specs.declared.token.TokenKind.{TokenKind}
use Rattle.loft_lex.specs.declared.token.TokenKind.TheVariants.{Name, Word, Number, Text, Sign}
use Rattle.loft_lex.specs.declared.token.LexError.{LexError}
use Rattle.loft_lex.specs.declared.token.LexError.TheVariants.{BadByte, OpenText, LongName, LongText, BadNumber}
use Rattle.loft_lex.specs.Bytes.{is_blank, is_digit, is_letter, is_name_byte, is_comment_byte, is_text_byte, begins, value_of, max_number}
use Rattle.loft_lex.specs.Word.{is_word}
use Rattle.loft_lex.specs.Sign.{is_sign}
use Rattle.loft_lex.specs.Fits.{is_text, between_quotes, IsOfKind}
use Rattle.loft_lex.specs.Front.{Front, front, name_front, number_front, text_end, text_front, sign_of_one, sign_front, Gap, Piece, Fault}
use Rattle.loft_lex.specs.Tokens.{Found, moved, with_token, then_found, tokens_past, tokens}
use Rattle.loft_lex.specs.Cut.{Cut, IsWhole, lengthens, begins_other, nothing, blank, comment, token as one_token, long_name, large_number, number_and_letter, long_text, text_to_end, text_to_line_feed, bad_byte_inside, bad_byte}
use Rattle.loft_lex.proofs.Cuts.{sound}
use Rattle.loft_lex.proofs.Steps.{token, cons_step}
use Rattle.loft_lex.proofs.Runs.{left_of, right_of, neither_left, neither_right, begins_neither, first_true, second_true, run_is, run_is_long}
use Rattle.loft_lex.proofs.Spelled.{word_like_name, sign_like_sign, sign_parts}

-- what stands at the front says what is found
found_from : (b : ℕ) (bs : List ℕ) (f : Front) → front b bs ≡ f → tokens (b ∷ bs) ≡ then_found f (λ more. moved (more + 1) (tokens (drop more bs)))
found_from b bs f e = cons_step b bs ∙ ap (λ g. then_found g (λ more. moved (more + 1) (tokens (drop more bs)))) e

front_blank : (b : ℕ) (bs : List ℕ) → is_blank b ≡ true → front b bs ≡ Gap 0
unfolding front
front_blank b bs is = rw is refl

front_letter : (b : ℕ) (bs : List ℕ) → is_letter b ≡ true → front b bs ≡ name_front b bs
unfolding front
front_letter b bs letter =
    let no_blank : is_blank b ≡ false = grind (arith, nat_tests) in
    let no_slash : (b == 47) ≡ false = grind (arith, nat_tests) in
    rw (no_blank, no_slash, letter) refl

front_digit : (b : ℕ) (bs : List ℕ) → is_digit b ≡ true → front b bs ≡ number_front b bs
unfolding front
front_digit b bs digit =
    let no_blank : is_blank b ≡ false = grind (arith, nat_tests) in
    let no_slash : (b == 47) ≡ false = grind (arith, nat_tests) in
    let no_letter : is_letter b ≡ false = grind (arith, nat_tests) in
    rw (no_blank, no_slash, no_letter, digit) refl

front_quote : (bs : List ℕ) → front 34 bs ≡ text_front bs
unfolding front
front_quote bs = refl

front_other : (b : ℕ) (bs : List ℕ) → begins_other b ≡ false → (b == 47 && begins (λ c. c == 47) bs) ≡ false → front b bs ≡ sign_front b bs
unfolding front
front_other b bs other no_comment =
    let three : (is_blank b || is_letter b || is_digit b) ≡ false = neither_left _ _ other in
    let no_quote : (b == 34) ≡ false = neither_right _ _ other in
    let two : (is_blank b || is_letter b) ≡ false = neither_left _ _ three in
    let no_digit : is_digit b ≡ false = neither_right _ _ three in
    let no_blank : is_blank b ≡ false = neither_left _ _ two in
    let no_letter : is_letter b ≡ false = neither_right _ _ two in
    rw (no_blank, no_comment, no_letter, no_digit, no_quote) refl

name_read : (b : ℕ) (w rest : List ℕ) → is_letter b ≡ true → list_all is_name_byte w ≡ true → nat_le (length (b ∷ w)) 64 ≡ true → begins is_name_byte rest ≡ false → (word : Bool) → is_word (b ∷ w) ≡ word → front b (w ++ rest) ≡ (if word then Piece Word (length w) else Piece Name (length w))
unfolding name_front
name_read b w rest letter all short stop word is =
    let run = run_is is_name_byte w rest all stop in
    let few : nat_lt 64 (length w + 1) ≡ false = grind (arith, nat_tests) in
    front_letter b (w ++ rest) letter ∙ rw (run, few, take-append_seam w rest, is) refl

number_read : (b : ℕ) (w rest : List ℕ) → is_digit b ≡ true → list_all is_digit w ≡ true → value_of (b ∷ w) ≤ max_number → begins is_digit rest ≡ false → begins is_letter rest ≡ false → front b (w ++ rest) ≡ Piece (Number (pos (value_of (b ∷ w)))) (length w)
unfolding number_front
number_read b w rest digit all small stop no_letter =
    let run = run_is is_digit w rest all stop in
    let few : nat_lt max_number (value_of (b ∷ w)) ≡ false = grind (arith, nat_tests) in
    front_digit b (w ++ rest) digit ∙ rw (run, take-append_seam w rest, drop-append_seam w rest, few, no_letter) refl

text_read : (inside rest : List ℕ) → is_text inside ≡ true → begins is_text_byte rest ≡ false → front 34 (inside ++ rest) ≡ text_end (length inside) rest
unfolding text_front
text_read inside rest text stop =
    let all : list_all is_text_byte inside ≡ true = left_of _ (nat_le (length inside) 120) text in
    let short : nat_le (length inside) 120 ≡ true = right_of (list_all is_text_byte inside) _ text in
    let run = run_is is_text_byte inside rest all stop in
    let few : nat_lt 120 (length inside) ≡ false = grind (arith, nat_tests) in
    front_quote (inside ++ rest) ∙ rw (run, few, drop-append_seam inside rest) refl

not_true : (p : Bool) → not p ≡ true → p ≡ false
not_true true h = cc
not_true false h = refl

and_false : (p : Bool) → (p && false) ≡ false
and_false true = refl
and_false false = refl

slash_again : (p q : Bool) → (p && (q && true)) ≡ false → (p && q) ≡ false
slash_again true true h = h
slash_again true false h = refl
slash_again false q h = refl

no_comment : (b : ℕ) (rest : List ℕ) → begins (lengthens (b ∷ [])) rest ≡ false → (b == 47 && begins (λ c. c == 47) rest) ≡ false
no_comment b [] whole = and_false (b == 47)
no_comment b (c ∷ cs) whole = slash_again (b == 47) (c == 47) (neither_right _ _ whole)

short_sign : (b : ℕ) (rest : List ℕ) → begins (lengthens (b ∷ [])) rest ≡ false → sign_front b rest ≡ sign_of_one b
unfolding sign_front
short_sign b [] whole = refl
short_sign b (c ∷ cs) whole = let no_sign : is_sign (b ∷ c ∷ []) ≡ false = neither_left _ _ whole in rw no_sign refl

one_sign : (b : ℕ) (sign : Bool) → is_sign (b ∷ []) ≡ sign → sign_of_one b ≡ (if sign then Piece Sign 0 else Fault (BadByte 0))
unfolding sign_of_one
one_sign b sign is = rw is refl

two_sign : (b c : ℕ) (rest : List ℕ) → is_sign (b ∷ c ∷ []) ≡ true → sign_front b (c ∷ rest) ≡ Piece Sign 1
unfolding sign_front
two_sign b c rest is = rw is refl

sign_read : (b : ℕ) (w rest : List ℕ) → is_sign (b ∷ w) ≡ true → begins (lengthens (b ∷ w)) rest ≡ false → front b (w ++ rest) ≡ Piece Sign (length w)
sign_read b [] rest sign whole =
    let other : begins_other b ≡ false = not_true (begins_other b) (sign_parts (b ∷ []) sign).0 in
    front_other b rest other (no_comment b rest whole) ∙ short_sign b rest whole ∙ one_sign b true sign
sign_read b (c ∷ []) rest sign whole =
    let like = sign_parts (b ∷ c ∷ []) sign in
    let other : begins_other b ≡ false = not_true (begins_other b) like.0 in
    let no_slashes : bytes_eq (b ∷ c ∷ []) (codes "//") ≡ false = not_true (bytes_eq (b ∷ c ∷ []) (codes "//")) like.2 in
    front_other b (c ∷ rest) other (slash_again (b == 47) (c == 47) no_slashes) ∙ two_sign b c rest sign
sign_read b (c ∷ d ∷ ds) rest sign whole = absurd (not_short (length ds) (sign_parts (b ∷ c ∷ d ∷ ds) sign).1)
  where
    not_short : (n : ℕ) → nat_le (suc (suc (suc n))) 2 ≡ true → ⊥
    not_short n short = let small : suc (suc (suc n)) ≤ 2 = grind (arith, nat_tests) in omega arith

quoted_read : (b : ℕ) (w inside rest : List ℕ) → b ∷ w ≡ 34 ∷ (inside ++ 34 ∷ []) → is_text inside ≡ true → front b (w ++ rest) ≡ Piece Text (length w)
unfolding text_end
quoted_read b w inside rest quotes text =
    let first : b ≡ 34 = cc in
    let others : w ≡ inside ++ 34 ∷ [] = cc in
    let split : (inside ++ 34 ∷ []) ++ rest ≡ inside ++ (34 ∷ rest) = append_assoc inside (34 ∷ []) rest in
    let len : length (inside ++ 34 ∷ []) ≡ length inside + 1 = length-append inside (34 ∷ []) in
    rw (first, others, split, len) (text_read inside (34 ∷ rest) text refl)

token_read : (kind : TokenKind) (b : ℕ) (w rest : List ℕ) → IsOfKind kind (b ∷ w) → IsWhole kind (b ∷ w) rest → front b (w ++ rest) ≡ Piece kind (length w)
token_read Name b w rest fits whole =
    let free : is_word (b ∷ w) ≡ false = not_true _ (right_of _ _ fits) in
    let shape = left_of _ _ fits in
    let short = right_of _ _ shape in
    let bytes = left_of _ _ shape in
    name_read b w rest (left_of _ _ bytes) (right_of _ _ (right_of _ _ bytes)) short whole false free
token_read Word b w rest fits whole =
    let like = word_like_name (b ∷ w) fits in
    let others = right_of _ _ like in
    name_read b w rest (left_of _ _ like) (right_of _ _ (left_of _ _ others)) (right_of _ _ others) whole true fits
token_read (Number value) b w rest fits whole =
    let stops = begins_neither is_letter is_digit rest whole in
    number_read b w rest fits.first (right_of _ _ fits.digits) fits.small stops.1 stops.0 ∙ ap (λ v. Piece (Number v) (length w)) (sym fits.spelled)
token_read Text b w rest fits whole = quoted_read b w (between_quotes (b ∷ w)) rest fits.quotes fits.inside
token_read Sign b w rest fits whole = sign_read b w rest fits whole

not_nothing : (kind : TokenKind) → IsOfKind kind [] → ⊥
not_nothing Name fits = false≢true fits
not_nothing Word fits = false≢true (word_like_name [] fits)
not_nothing (Number value) fits = false≢true fits.first
not_nothing Text fits = let no : [] ≡ 34 ∷ (between_quotes [] ++ 34 ∷ []) = fits.quotes in cc
not_nothing Sign fits = false≢true (sign_like_sign [] fits)

token_found : (kind : TokenKind) (bytes rest : List ℕ) (found : Found) → IsOfKind kind bytes → IsWhole kind bytes rest → tokens rest ≡ found → tokens (bytes ++ rest) ≡ with_token (token kind 0 (length bytes)) (moved (length bytes) found)
token_found kind [] rest found fits whole is = absurd (not_nothing kind fits)
token_found kind (b ∷ w) rest found fits whole is =
    let len : length w + 1 ≡ suc (length w) = omega arith in
    found_from b (w ++ rest) (Piece kind (length w)) (token_read kind b w rest fits whole) ∙ rw (drop-append_seam w rest, is, len) refl

front_slashes : (xs : List ℕ) → front 47 (47 ∷ xs) ≡ Gap (1 + prefix_len is_comment_byte xs)
unfolding front
front_slashes xs = refl

comment_found : (line rest : List ℕ) (found : Found) → list_all is_comment_byte line ≡ true → begins is_comment_byte rest ≡ false → tokens rest ≡ found → tokens (47 ∷ 47 ∷ (line ++ rest)) ≡ moved (2 + length line) found
comment_found line rest found all stop is =
    let run = run_is is_comment_byte line rest all stop in
    let more : 1 + prefix_len is_comment_byte (line ++ rest) ≡ suc (length line) = omega (arith, run) in
    let len : suc (length line) + 1 ≡ 2 + length line = omega arith in
    found_from 47 (47 ∷ (line ++ rest)) (Gap (suc (length line))) (front_slashes (line ++ rest) ∙ ap Gap more) ∙ rw (drop-append_seam line rest, is, len) refl

long_name_found : (bytes rest : List ℕ) → begins is_letter bytes ≡ true → list_all is_name_byte bytes ≡ true → 64 < length bytes → tokens (bytes ++ rest) ≡ Err (LongName 0)
unfolding name_front
long_name_found [] rest letter all many = absurd (omega arith)
long_name_found (b ∷ w) rest letter all many =
    let run = run_is_long is_name_byte w rest (right_of (is_name_byte b) (list_all is_name_byte w) all) in
    let long : nat_lt 64 (prefix_len is_name_byte (w ++ rest) + 1) ≡ true = grind (arith, nat_tests) in
    found_from b (w ++ rest) (Fault (LongName 0)) (front_letter b (w ++ rest) letter ∙ rw long refl)

bad_number_found : (digits rest : List ℕ) → begins is_digit digits ≡ true → list_all is_digit digits ≡ true → begins is_digit rest ≡ false → (nat_lt max_number (value_of digits) || begins is_letter rest) ≡ true → tokens (digits ++ rest) ≡ Err (BadNumber 0)
unfolding number_front
bad_number_found [] rest first all stop bad = absurd (false≢true first)
bad_number_found (b ∷ w) rest first all stop bad =
    let run = run_is is_digit w rest (right_of _ _ all) stop in
    found_from b (w ++ rest) (Fault (BadNumber 0)) (front_digit b (w ++ rest) first ∙ rw (run, take-append_seam w rest, drop-append_seam w rest, bad) refl)

large_is : (value : ℕ) → max_number < value → nat_lt max_number value ≡ true
large_is value large = grind (arith, nat_tests)

letter_no_digit : (rest : List ℕ) → begins is_letter rest ≡ true → begins is_digit rest ≡ false
letter_no_digit [] h = refl
letter_no_digit (b ∷ bs) h = letter_is b h
  where
    letter_is : (b : ℕ) → is_letter b ≡ true → is_digit b ≡ false
    letter_is b h = grind (arith, nat_tests)

long_text_found : (inside rest : List ℕ) → list_all is_text_byte inside ≡ true → 120 < length inside → tokens (34 ∷ (inside ++ rest)) ≡ Err (LongText 0)
unfolding text_front
long_text_found inside rest all many =
    let run = run_is_long is_text_byte inside rest all in
    let long : nat_lt 120 (prefix_len is_text_byte (inside ++ rest)) ≡ true = grind (arith, nat_tests) in
    found_from 34 (inside ++ rest) (Fault (LongText 0)) (front_quote (inside ++ rest) ∙ rw long refl)

text_fault : (inside rest : List ℕ) (e : LexError) → is_text inside ≡ true → begins is_text_byte rest ≡ false → text_end (length inside) rest ≡ Fault e → tokens (34 ∷ (inside ++ rest)) ≡ Err e
text_fault inside rest e text stop is = found_from 34 (inside ++ rest) (Fault e) (text_read inside rest text stop ∙ is)

open_end : (n : ℕ) → text_end n [] ≡ Fault (OpenText 0)
unfolding text_end
open_end n = refl

open_line : (n : ℕ) (rest : List ℕ) → text_end n (10 ∷ rest) ≡ Fault (OpenText 0)
unfolding text_end
open_line n rest = refl

bad_end : (n b : ℕ) (rest : List ℕ) → (b == 34) ≡ false → (b == 10) ≡ false → text_end n (b ∷ rest) ≡ Fault (BadByte (1 + n))
unfolding text_end
bad_end n b rest no_quote no_line_feed = let len : n + 1 ≡ 1 + n = omega arith in rw (no_quote, no_line_feed, len) refl

bad_byte_found : (b : ℕ) (rest : List ℕ) → begins_other b ≡ false → is_sign (b ∷ []) ≡ false → begins (lengthens (b ∷ [])) rest ≡ false → tokens (b ∷ rest) ≡ Err (BadByte 0)
bad_byte_found b rest other no_sign whole =
    found_from b rest (Fault (BadByte 0)) (front_other b rest other (no_comment b rest whole) ∙ short_sign b rest whole ∙ one_sign b false no_sign)

found_nothing : tokens [] ≡ Ok []
unfolding tokens_past
found_nothing = refl

pub complete : {text : List ℕ} {found : Found} → Cut text found → tokens text ≡ found
complete nothing = found_nothing
complete (blank b rest found is c) = found_from b rest (Gap 0) (front_blank b rest is) ∙ ap (moved 1) (complete c)
complete (comment line rest found all stop c) = comment_found line rest found all stop (complete c)
complete (one_token kind bytes rest found fits whole c) = token_found kind bytes rest found fits whole (complete c)
complete (long_name bytes rest letter all many) = long_name_found bytes rest letter all many
complete (large_number digits rest first all stop large) = bad_number_found digits rest first all stop (first_true _ _ (large_is (value_of digits) large))
complete (number_and_letter digits rest first all letter) = bad_number_found digits rest first all (letter_no_digit rest letter) (second_true _ _ letter)
complete (long_text inside rest all many) = long_text_found inside rest all many
complete (text_to_end inside text) = ap (λ (xs : List ℕ). tokens (34 ∷ xs)) (sym (append-nil inside)) ∙ text_fault inside [] (OpenText 0) text refl (open_end (length inside))
complete (text_to_line_feed inside rest text) = text_fault inside (10 ∷ rest) (OpenText 0) text refl (open_line (length inside) rest)
complete (bad_byte_inside inside b rest text bad) =
    let two = neither_left _ _ bad in
    text_fault inside (b ∷ rest) (BadByte (1 + length inside)) text (neither_left _ _ two) (bad_end (length inside) b rest (neither_right _ _ two) (neither_right _ _ bad))
complete (bad_byte b rest other no_sign whole) = bad_byte_found b rest other no_sign whole

-- what is found is the one cut of the text
pub found_is_cut : (text : List ℕ) (found : Found) → (tokens text ≡ found) ↔ Cut text found
found_is_cut text found = (λ is. subst (Cut text) is (sound (length text) text (omega arith)), complete)
