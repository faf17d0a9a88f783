-- Which bytes go on with a spelling of each part.
use Rattle.std.proofs.Common.{◌≡◌, ℕ, zero, suc, Bool, true, false, not, nat_le, ◌==◌, ◌&&◌, ◌||◌, List, [], ◌∷◌, ◌++◌, length, length-append, codes, refl, sym, ap, subst, ◌∙◌, arith, ◌⊎◌, inl, inr}
use Rattle.std.specs.List.{list_any, list_all}
use Rattle.std.specs.Str.{bytes_eq}
use Rattle.loft_spelling.specs.Sets.{Set, is_empty, is_prefix, words, either, after_byte, is_digit, value_of, is_number, numbers, is_printed, is_line, is_line_part}
use Rattle.loft_spelling.proofs.Sets.{Honest, or_cases, or_right, and_both, both_and, prefix_more, same_bytes}
use Rattle.loft_lex.specs.Bytes.{is_letter, is_name_byte}
use Rattle.loft_lex.specs.Bytes.{max_number}
use Rattle.loft_report_shape.specs.Sets.{names, makers, integers, values, least}

all_last : (p : ℕ → Bool) (w : List ℕ) (b : ℕ) → list_all p (w ++ b ∷ []) ≡ true → p b ≡ true
all_last p [] b e = (and_both (p b) true e).0
all_last p (c ∷ w) b e = all_last p w b (and_both (p c) (list_all p (w ++ b ∷ [])) e).1

all_front : (p : ℕ → Bool) (v w : List ℕ) → list_all p (v ++ w) ≡ true → list_all p v ≡ true
all_front p [] w e = refl
all_front p (b ∷ v) w e = let r = and_both (p b) (list_all p (v ++ w)) e in both_and (p b) (list_all p v) r.0 (all_front p v w r.1)

digit_name : (b : ℕ) → is_digit b ≡ true → is_name_byte b ≡ true
digit_name b e = or_right (is_letter b) (is_digit b) e

-- after the first byte, and after any bytes, only bytes of names stand
abbrev pub Tail : Set → Type 0
Tail s = (c : ℕ) (w : List ℕ) (b : ℕ) → s.begun (c ∷ (w ++ b ∷ [])) ≡ true → is_name_byte b ≡ true

abbrev pub Each : Set → Type 0
Each s = (w : List ℕ) (b : ℕ) → s.begun (w ++ b ∷ []) ≡ true → is_name_byte b ≡ true

number_digits : (nought : Bool) (n c : ℕ) (w : List ℕ) → is_number nought n (c ∷ w) ≡ true → list_all is_digit (c ∷ w) ≡ true
number_digits nought n c w e =
    let p = and_both (not (c == 48) || (nought && is_empty w)) (list_all is_digit (c ∷ w) && nat_le (value_of (c ∷ w)) n) e in
    (and_both (list_all is_digit (c ∷ w)) (nat_le (value_of (c ∷ w)) n) p.1).0

each_numbers : (nought : Bool) (n : ℕ) → Each (numbers nought n)
each_numbers nought n [] b e = digit_name b (all_last is_digit [] b (number_digits nought n b [] e))
each_numbers nought n (c ∷ w) b e = digit_name b (all_last is_digit (c ∷ w) b (number_digits nought n c (w ++ b ∷ []) e))

pub tail_numbers : (nought : Bool) (n : ℕ) → Tail (numbers nought n)
tail_numbers nought n c w b e = each_numbers nought n (c ∷ w) b e

pub tail_either : (s t : Set) → Tail s → Tail t → Tail (either s t)
tail_either s t h k c w b e = go (or_cases (s.begun (c ∷ (w ++ b ∷ []))) (t.begun (c ∷ (w ++ b ∷ []))) e)
  where
    go : (s.begun (c ∷ (w ++ b ∷ [])) ≡ true) ⊎ (t.begun (c ∷ (w ++ b ∷ [])) ≡ true) → is_name_byte b ≡ true
    go (inl f) = h c w b f
    go (inr f) = k c w b f

tail_after : (d : ℕ) (s : Set) → Each s → Tail (after_byte d s)
tail_after d s h c w b e = h w b (and_both (c == d) (s.begun (w ++ b ∷ [])) e).1

pub tail_names : Tail names
tail_names c w b e =
    let p = and_both (is_letter c && list_all is_name_byte (w ++ b ∷ [])) (nat_le (length (c ∷ (w ++ b ∷ []))) 64) e in
    all_last is_name_byte w b (and_both (is_letter c) (list_all is_name_byte (w ++ b ∷ [])) p.0).1

abbrev pub after_first : List ℕ → Bool
after_first [] = true
after_first (b ∷ bs) = list_all is_name_byte bs

pub tail_words : (ws : List (List ℕ)) → list_all after_first ws ≡ true → Tail (words ws)
tail_words [] h c w b e = absurd cc
tail_words (v ∷ ws) h c w b e =
    let p = and_both (after_first v) (list_all after_first ws) h in
    go p.0 (tail_words ws p.1 c w b) (or_cases (is_prefix (c ∷ (w ++ b ∷ [])) v) (list_any (is_prefix (c ∷ (w ++ b ∷ []))) ws) e)
  where
    go : after_first v ≡ true → (list_any (is_prefix (c ∷ (w ++ b ∷ []))) ws ≡ true → is_name_byte b ≡ true)
        → (is_prefix (c ∷ (w ++ b ∷ [])) v ≡ true) ⊎ (list_any (is_prefix (c ∷ (w ++ b ∷ []))) ws ≡ true) → is_name_byte b ≡ true
    go f ih (inl g) = let m = prefix_more (c ∷ (w ++ b ∷ [])) v g in
        let k : list_all is_name_byte ((w ++ b ∷ []) ++ m.0) ≡ true = subst (λ t. after_first t ≡ true) m.1 f in
        all_last is_name_byte w b (all_front is_name_byte (w ++ b ∷ []) m.0 k)
    go f ih (inr g) = ih g

pub tail_integers : Tail integers
tail_integers = tail_either (numbers true max_number) (after_byte 45 (numbers false least)) (tail_numbers true max_number) (tail_after 45 (numbers false least) (each_numbers false least))

pub tail_makers : Tail makers
tail_makers = tail_either names (words (codes "start" ∷ [])) tail_names (tail_words (codes "start" ∷ []) refl)

pub tail_values : Tail values
tail_values = tail_either integers makers tail_integers tail_makers

-- ---- spellings that can't go on

length_of : (n : ℕ) (ws : List (List ℕ)) (w : List ℕ) → list_all (λ one. length one == n) ws ≡ true → list_any (λ one. bytes_eq one w) ws ≡ true → length w ≡ n
length_of n [] w h e = absurd cc
length_of n (v ∷ ws) w h e =
    let p = and_both (length v == n) (list_all (λ one. length one == n) ws) h in
    go p.0 (length_of n ws w p.1) (or_cases (bytes_eq v w) (list_any (λ one. bytes_eq one w) ws) e)
  where
    go : (length v == n) ≡ true → (list_any (λ one. bytes_eq one w) ws ≡ true → length w ≡ n) → (bytes_eq v w ≡ true) ⊎ (list_any (λ one. bytes_eq one w) ws ≡ true) → length w ≡ n
    go f ih (inl g) = let len : length v ≡ length w = ap (λ (t : List ℕ). length t) (same_bytes v w g) in let same : length v ≡ n = grind (arith, f) in sym len ∙ same
    go f ih (inr g) = ih g

pub shut_words : (n : ℕ) (ws : List (List ℕ)) → list_all (λ one. length one == n) ws ≡ true → Honest (words ws)
    → (w : List ℕ) (b : ℕ) → (words ws).whole w ≡ true → (words ws).begun (w ++ b ∷ []) ≡ true → ⊥
shut_words n ws h honest w b e f =
    let m = honest.sound (w ++ b ∷ []) f in
    let one : length w ≡ n = length_of n ws w h e in
    let two : length ((w ++ b ∷ []) ++ m.0) ≡ n = length_of n ws ((w ++ b ∷ []) ++ m.0) h m.1 in
    omega (arith, one, two, length-append (w ++ b ∷ []) m.0, length-append w (b ∷ []))

ten_printed : (c : ℕ) → (c == 10) ≡ true → is_printed c ≡ true → ⊥
ten_printed c e f = let same : c ≡ 10 = grind (arith, e) in let g : is_printed 10 ≡ true = subst (λ x. is_printed x ≡ true) same f in cc

not_empty : (w : List ℕ) (b : ℕ) → is_empty (w ++ b ∷ []) ≡ true → ⊥
not_empty [] b e = absurd cc
not_empty (c ∷ w) b e = absurd cc

pub shut_line : (n : ℕ) (w : List ℕ) (b : ℕ) → is_line n w ≡ true → is_line_part n (w ++ b ∷ []) ≡ true → ⊥
unfolding is_line is_line_part
shut_line zero [] b e f = absurd cc
shut_line (suc n) [] b e f = absurd cc
shut_line zero (c ∷ w) b e f = not_empty w b (and_both (c == 10) (is_empty (w ++ b ∷ [])) f).1
shut_line (suc n) (c ∷ w) b e f = go (shut_line n w b) (or_cases (c == 10 && is_empty w) (is_printed c && is_line n w) e) (or_cases (c == 10 && is_empty (w ++ b ∷ [])) (is_printed c && is_line_part n (w ++ b ∷ [])) f)
  where
    go : (is_line n w ≡ true → is_line_part n (w ++ b ∷ []) ≡ true → ⊥) → ((c == 10 && is_empty w) ≡ true) ⊎ ((is_printed c && is_line n w) ≡ true)
        → ((c == 10 && is_empty (w ++ b ∷ [])) ≡ true) ⊎ ((is_printed c && is_line_part n (w ++ b ∷ [])) ≡ true) → ⊥
    go ih p (inl q) = not_empty w b (and_both (c == 10) (is_empty (w ++ b ∷ [])) q).1
    go ih (inl p) (inr q) = ten_printed c (and_both (c == 10) (is_empty w) p).0 (and_both (is_printed c) (is_line_part n (w ++ b ∷ [])) q).0
    go ih (inr p) (inr q) = ih (and_both (is_printed c) (is_line n w) p).1 (and_both (is_printed c) (is_line_part n (w ++ b ∷ [])) q).1
