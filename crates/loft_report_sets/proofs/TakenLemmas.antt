-- How many bytes each kind of set takes.
use Rattle.std.proofs.Common.{◌≡◌, ℕ, zero, suc, ◌+◌, ◌-◌, ◌<◌, ◌≤◌, nat_le, not, Bool, true, false, ◌==◌, ◌&&◌, ◌||◌, List, [], ◌∷◌, ◌++◌, codes, length, get_or, take, arith, refl, sym, ap, subst, ◌∙◌, length-take, append_assoc}
use Rattle.std.proofs.Math.Seq.{take-suc}
use Rattle.std.proofs.lemmas.Bool.Decides.{nat_tests}
use Rattle.std.proofs.lemmas.List.{append-nil}
use Rattle.std.proofs.lemmas.List.Folds.{list_all-append}
use Rattle.std.specs.List.{list_all}
use Rattle.loft_lex.specs.Bytes.{is_letter, is_name_byte}
use Rattle.loft_lex.specs.Fits.{is_name}
use Rattle.loft_lex.specs.Word.{is_word}
use Rattle.loft_spelling.specs.Sets.{Set, is_empty, is_number, is_prefix, is_printed, is_line, is_line_part, lines}
use Rattle.loft_spelling.proofs.Sets.{Honest, and_both, prefix_more}
use Rattle.loft_report_shape.specs.Sets.{makers, names, sign, is_name_part}
use Rattle.loft_report_shape.proofs.Names.{honest_names}
use Rattle.loft_report_sets.specs.Taken.{Run, Taken}

-- one byte more of a text
more : (bytes : List ℕ) (n : ℕ) → n < length bytes → take (n + 1) bytes ≡ take n bytes ++ get_or bytes n 0 ∷ []
more bytes n h = let e : n + 1 ≡ suc n = omega arith in ap (λ k. take k bytes) e ∙ take-suc bytes n 0 h

-- a prefix of a prefix
pub begun_front : (s : Set) → Honest s → (u v : List ℕ) → s.begun (u ++ v) ≡ true → s.begun u ≡ true
begun_front s h u v e = let m = h.sound (u ++ v) e in h.complete u (v ++ m.0) (subst (λ t. s.whole t ≡ true) (append_assoc u v m.0) m.1)

-- ---- signs

pub sign_empty : (b : ℕ) (bytes : List ℕ) → length bytes ≡ 0 → Taken (sign b) bytes 0
unfolding is_prefix
sign_empty b [] e = record { within = omega arith; begun = refl; last = λ h. absurd (omega (arith, h)) }
sign_empty b (c ∷ bytes) e = absurd (omega (arith, e))

pub sign_there : (b : ℕ) (bytes : List ℕ) → 1 ≤ length bytes → get_or bytes 0 0 ≡ b → Taken (sign b) bytes 1
unfolding is_prefix
sign_there b [] some e = absurd (omega (arith, some))
sign_there b (c ∷ []) some e = let f : (c == b) ≡ true = grind (arith, nat_tests, e) in record { within = omega arith; begun = rw f refl; last = λ h. absurd (omega (arith, h)) }
sign_there b (c ∷ d ∷ bytes) some e = let f : (c == b) ≡ true = grind (arith, nat_tests, e) in record { within = omega arith; begun = rw f refl; last = λ _. rw f refl }

pub sign_other : (b : ℕ) (bytes : List ℕ) → 1 ≤ length bytes → (get_or bytes 0 0 ≡ b → ⊥) → Taken (sign b) bytes 0
unfolding is_prefix
sign_other b [] some e = absurd (omega (arith, some))
sign_other b (c ∷ bytes) some e = let f : (c == b) ≡ false = grind (arith, nat_tests, e) in record { within = omega arith; begun = refl; last = λ _. rw f refl }

-- ---- names

all_three : (a b c : Bool) → a ≡ true → b ≡ true → c ≡ true → (a && b && c) ≡ true
all_three a b c p q r = rw (p, q, r) refl

not_second : (a b c : Bool) → b ≡ false → (a && b && c) ≡ false
not_second true b c e = rw e refl
not_second false b c e = refl

not_third : (a b c : Bool) → c ≡ false → (a && b && c) ≡ false
not_third true true c e = e
not_third true false c e = refl
not_third false b c e = refl

pub name_empty : (bytes : List ℕ) → length bytes ≡ 0 → Taken names bytes 0
name_empty [] e = record { within = omega arith; begun = refl; last = λ h. absurd (omega (arith, h)) }
name_empty (c ∷ bytes) e = absurd (omega (arith, e))

pub name_none : (bytes : List ℕ) → 1 ≤ length bytes → is_letter (get_or bytes 0 0) ≡ false → Taken names bytes 0
name_none [] some e = absurd (omega (arith, some))
name_none (b ∷ bytes) some e = record { within = omega arith; begun = refl; last = λ _. rw e refl }

letter_is_name : (b : ℕ) → is_letter b ≡ true → is_name_byte b ≡ true
letter_is_name b e = rw e refl

pub name_some : (bytes : List ℕ) (n : ℕ) → 1 ≤ length bytes → is_letter (get_or bytes 0 0) ≡ true → Run is_name_byte 64 bytes n → Taken names bytes n
name_some [] n some e run = absurd (omega (arith, some))
name_some (b ∷ bytes) zero some e run = absurd (let f = sym (letter_is_name b e) ∙ run.last (omega arith) (omega arith) in cc)
name_some (b ∷ bytes) (suc m) some e run = record {
  within = run.within;
  begun = all_three (is_letter b) (list_all is_name_byte (take m bytes)) (nat_le (length (b ∷ take m bytes)) 64) e rest.1 (grind (arith, nat_tests, size, run.few));
  last = λ h. past h;
}
  where
    rest : (is_name_byte b ≡ true) × (list_all is_name_byte (take m bytes) ≡ true)
    rest = and_both (is_name_byte b) (list_all is_name_byte (take m bytes)) run.all

    inside : m ≤ length bytes
    inside = omega (arith, run.within)

    size : length (take m bytes) ≡ m
    size = omega (arith, length-take m bytes, inside)

    full : (suc m < length (b ∷ bytes)) → nat_le 64 (suc m) ≡ true → is_name_part (b ∷ take (m + 1) bytes) ≡ false
    full h f = not_third (is_letter b) (list_all is_name_byte (take (m + 1) bytes)) (nat_le (length (b ∷ take (m + 1) bytes)) 64)
        (let k : length (take (m + 1) bytes) ≡ m + 1 = omega (arith, length-take (m + 1) bytes, h) in grind (arith, nat_tests, k, f))

    other : (suc m < length (b ∷ bytes)) → nat_le 64 (suc m) ≡ false → is_name_part (b ∷ take (m + 1) bytes) ≡ false
    other h f =
        let less : m < length bytes = omega (arith, h) in
        let k : suc m < 64 = grind (arith, nat_tests, f) in
        let no : is_name_byte (get_or bytes m 0) ≡ false = run.last h k in
        let all : list_all is_name_byte (take (m + 1) bytes) ≡ false =
        ap (list_all is_name_byte) (more bytes m less) ∙ list_all-append is_name_byte (take m bytes) (get_or bytes m 0 ∷ []) ∙ rw (rest.1, no) refl in
        not_second (is_letter b) (list_all is_name_byte (take (m + 1) bytes)) (nat_le (length (b ∷ take (m + 1) bytes)) 64) all

    decide : (suc m < length (b ∷ bytes)) → (t : Bool) → nat_le 64 (suc m) ≡ t → is_name_part (b ∷ take (m + 1) bytes) ≡ false
    decide h true f = full h f
    decide h false f = other h f

    past : (suc m < length (b ∷ bytes)) → is_name_part (take (suc m + 1) (b ∷ bytes)) ≡ false
    past h = let k : suc m + 1 ≡ suc (m + 1) = omega arith in rw k (decide h _ refl)

-- `start` is a prefix of names, too
starts_name : (w : List ℕ) (more : List ℕ) → codes "start" ≡ w ++ more → is_name_part w ≡ true
starts_name w more e = begun_front names honest_names w more (subst (λ t. is_name_part t ≡ true) e refl)

makers_begun : (w : List ℕ) → makers.begun w ≡ names.begun w
makers_begun w = go (is_name_part w) refl
  where
    only : (t : Bool) → is_prefix w (codes "start") ≡ t → is_name_part w ≡ false → (is_prefix w (codes "start") || false) ≡ false
    only true e f = absurd (let m = prefix_more w (codes "start") e in let g = sym (starts_name w m.0 m.1) ∙ f in cc)
    only false e f = rw e refl

    go : (t : Bool) → is_name_part w ≡ t → makers.begun w ≡ is_name_part w
    go true e = rw e refl
    go false e = let f = only _ refl e in rw (e, f) refl

pub of_makers : (bytes : List ℕ) (n : ℕ) → Taken names bytes n → Taken makers bytes n
of_makers bytes n t = record { within = t.within; begun = makers_begun (take n bytes) ∙ t.begun; last = λ h. makers_begun (take (n + 1) bytes) ∙ t.last h }

-- ---- what is printed in a line

printed_no_feed : (b : ℕ) → is_printed b ≡ true → (b == 10) ≡ false
printed_no_feed b e = grind (arith, nat_tests, e)

feed_not_printed : (b : ℕ) → (b == 10) ≡ true → is_printed b ≡ false
feed_not_printed b e = let f : b ≡ 10 = grind (arith, nat_tests, e) in rw f refl

after_printed : (m : ℕ) (w v : List ℕ) → list_all is_printed w ≡ true → length w ≤ m → is_line_part m (w ++ v) ≡ is_line_part (m - length w) v
unfolding is_line_part
after_printed m [] v all few = let e : m - 0 ≡ m = omega arith in rw e refl
after_printed zero (b ∷ w) v all few = absurd (omega (arith, few))
after_printed (suc m) (b ∷ w) v all few =
    let p = and_both (is_printed b) (list_all is_printed w) all in
    let e : suc m - suc (length w) ≡ m - length w = omega arith in
    let f = printed_no_feed b p.0 in
    rw (f, p.0, e) (after_printed m w v p.1 (omega (arith, few)))

part_nil : (m : ℕ) → is_line_part m [] ≡ true
unfolding is_line_part
part_nil zero = refl
part_nil (suc m) = refl

part_feed : (m b : ℕ) → (b == 10) ≡ true → is_line_part m (b ∷ []) ≡ true
unfolding is_line_part
part_feed zero b e = rw e refl
part_feed (suc m) b e = rw e refl

part_other : (m b : ℕ) → (b == 10) ≡ false → (0 < m → is_printed b ≡ false) → is_line_part m (b ∷ []) ≡ false
unfolding is_line_part
part_other zero b e f = rw e refl
part_other (suc m) b e f = let g = f (omega arith) in rw (e, g) refl

part_past : (m b c : ℕ) → (b == 10) ≡ true → is_line_part m (b ∷ c ∷ []) ≡ false
unfolding is_line_part
part_past zero b c e = rw e refl
part_past (suc m) b c e = let f = feed_not_printed b e in rw (e, f) refl

printed_size : (bytes : List ℕ) (n : ℕ) → Run is_printed 256 bytes n → length (take n bytes) ≡ n
printed_size bytes n run = omega (arith, length-take n bytes, run.within)

pub line_open : (bytes : List ℕ) (n : ℕ) → Run is_printed 256 bytes n → (n < length bytes → get_or bytes n 0 ≡ 10 → ⊥) → Taken (lines 256) bytes n
line_open bytes n run none = record {
  within = run.within;
  begun = ap (is_line_part 256) (sym (append-nil (take n bytes))) ∙ after_printed 256 (take n bytes) [] run.all short ∙ part_nil (256 - length (take n bytes));
  last = λ h. ap (is_line_part 256) (more bytes n h) ∙ after_printed 256 (take n bytes) (get_or bytes n 0 ∷ []) run.all short
      ∙ part_other (256 - length (take n bytes)) (get_or bytes n 0) (let no = none h in grind (arith, nat_tests, no)) (λ room. run.last h (omega (arith, room, size)));
}
  where
    size : length (take n bytes) ≡ n
    size = printed_size bytes n run

    short : length (take n bytes) ≤ 256
    short = omega (arith, size, run.few)

pub line_closed : (bytes : List ℕ) (n : ℕ) → Run is_printed 256 bytes n → n < length bytes → get_or bytes n 0 ≡ 10 → Taken (lines 256) bytes (n + 1)
line_closed bytes n run h is = record {
  within = omega (arith, h);
  begun = ap (is_line_part 256) (more bytes n h) ∙ after_printed 256 (take n bytes) (get_or bytes n 0 ∷ []) run.all short ∙ part_feed (256 - length (take n bytes)) (get_or bytes n 0) feed;
  last = λ k. ap (is_line_part 256) (two k) ∙ after_printed 256 (take n bytes) (get_or bytes n 0 ∷ get_or bytes (n + 1) 0 ∷ []) run.all short
      ∙ part_past (256 - length (take n bytes)) (get_or bytes n 0) (get_or bytes (n + 1) 0) feed;
}
  where
    short : length (take n bytes) ≤ 256
    short = omega (arith, printed_size bytes n run, run.few)

    feed : (get_or bytes n 0 == 10) ≡ true
    feed = grind (arith, nat_tests, is)

    two : n + 1 < length bytes → take (n + 1 + 1) bytes ≡ take n bytes ++ get_or bytes n 0 ∷ get_or bytes (n + 1) 0 ∷ []
    two k = more bytes (n + 1) k ∙ ap (λ t. t ++ get_or bytes (n + 1) 0 ∷ []) (more bytes n h) ∙ append_assoc (take n bytes) (get_or bytes n 0 ∷ []) (get_or bytes (n + 1) 0 ∷ [])

-- ---- what is begun is whole

line_empty : (n : ℕ) → is_line n [] ≡ false
unfolding is_line
line_empty zero = refl
line_empty (suc n) = refl

no_line : (a b : Bool) → b ≡ false → ((false && true) || (a && b)) ≡ false
no_line true b e = e
no_line false b e = refl

not_feed : (a b : Bool) → ((a && false) || b) ≡ true → b ≡ true
not_feed true b e = e
not_feed false b e = e

and_true : (a : Bool) → (a && true) ≡ a
and_true true = refl
and_true false = refl

skips : (a b : Bool) → ((a && false) || b) ≡ b
skips true b = refl
skips false b = refl

pub sign_whole : (b : ℕ) (w : List ℕ) → (sign b).begun w ≡ true → (sign b).whole w ≡ not (is_empty w)
unfolding is_prefix
sign_whole b [] e = refl
sign_whole b (c ∷ []) e = go (c == b) refl e
  where
    go : (t : Bool) → (c == b) ≡ t → ((t && true) || false) ≡ true → (sign b).whole (c ∷ []) ≡ true
    go true f g = let same : b ≡ c = grind (arith, nat_tests, f) in let h : (b == c) ≡ true = grind (arith, nat_tests, same) in rw h refl
    go false f g = absurd cc
sign_whole b (c ∷ d ∷ w) e = absurd (go (c == b) e)
  where
    go : (t : Bool) → ((t && false) || false) ≡ true → ⊥
    go true g = cc
    go false g = cc

pub number_whole : (nought : Bool) (most : ℕ) (w : List ℕ) → (is_empty w || is_number nought most w) ≡ true → is_number nought most w ≡ not (is_empty w)
number_whole nought most [] e = refl
number_whole nought most (b ∷ w) e = e

all_but_last : (a b c d e : Bool) → a ≡ true → b ≡ true → c ≡ true → d ≡ true → (a && (b && c) && d && e) ≡ e
all_but_last a b c d e p q r s = rw (p, q, r, s) refl

pub name_whole : (w : List ℕ) → is_name_part w ≡ true → is_name w ≡ (not (is_empty w) && not (is_word w))
name_whole [] e = refl
name_whole (b ∷ w) e =
    let p = and_both (is_letter b && list_all is_name_byte w) (nat_le (length (b ∷ w)) 64) e in
    let q = and_both (is_letter b) (list_all is_name_byte w) p.0 in
    let f = letter_is_name b q.0 in
    all_but_last (is_letter b) (is_name_byte b) (list_all is_name_byte w) (nat_le (length (b ∷ w)) 64) (not (is_word (b ∷ w))) q.0 f q.1 p.1

pub maker_part : (w : List ℕ) → makers.begun w ≡ true → is_name_part w ≡ true
maker_part w e = sym (makers_begun w) ∙ e

pub line_whole : (n : ℕ) (w : List ℕ) → is_line_part n w ≡ true → is_line n w ≡ (not (is_empty w) && get_or w (length w - 1) 0 == 10)
unfolding is_line is_line_part
line_whole zero [] e = refl
line_whole (suc n) [] e = refl
line_whole zero (b ∷ []) e = and_true (b == 10)
line_whole (suc n) (b ∷ []) e = go (b == 10) refl
  where
    go : (t : Bool) → (b == 10) ≡ t → is_line (suc n) (b ∷ []) ≡ (b == 10)
    go true f = rw f refl
    go false f = let g = line_empty n in rw f (no_line (is_printed b) (is_line n []) g)
line_whole zero (b ∷ c ∷ w) e = absurd (go (b == 10) e)
  where
    go : (t : Bool) → (t && false) ≡ true → ⊥
    go true f = cc
    go false f = cc
line_whole (suc n) (b ∷ c ∷ w) e = go (λ part. line_whole n (c ∷ w) part) (b == 10) refl
  where
    go : (is_line_part n (c ∷ w) ≡ true → is_line n (c ∷ w) ≡ (get_or (c ∷ w) (length (c ∷ w) - 1) 0 == 10)) → (t : Bool) → (b == 10) ≡ t → is_line (suc n) (b ∷ c ∷ w) ≡ (get_or (b ∷ c ∷ w) (length (b ∷ c ∷ w) - 1) 0 == 10)
    go each t f =
        let i : length (b ∷ c ∷ w) - 1 ≡ suc (length (c ∷ w) - 1) = omega arith in
        let rest : (is_printed b && is_line_part n (c ∷ w)) ≡ true = not_feed t (is_printed b && is_line_part n (c ∷ w)) (subst (λ x. ((x && false) || (is_printed b && is_line_part n (c ∷ w))) ≡ true) f e) in
        let p = and_both (is_printed b) (is_line_part n (c ∷ w)) rest in
        rw (p.0, i) (skips (b == 10) (is_line n (c ∷ w)) ∙ each p.1)
