-- The first bytes of a name can always be completed, and each front of a name is one.
use Rattle.std.proofs.Common.{◌≡◌, ℕ, zero, suc, ◌-◌, ◌<◌, ◌≤◌, Bool, true, false, not, nat_le, ◌&&◌, List, [], ◌∷◌, ◌++◌, length, length-append, is_some, refl, ap, arith}
use Rattle.std.proofs.lemmas.Bool.{le-leb, leb-true}
use Rattle.std.proofs.lemmas.Slice.Eq.{bytes_eq-Decides}
use Rattle.std.specs.List.{list_all, find}
use Rattle.std.specs.Str.{bytes_eq}
use Rattle.loft_spelling.proofs.Sets.{Honest, and_both, both_and}
use Rattle.loft_lex.specs.Bytes.{is_letter, is_name_byte}
use Rattle.loft_lex.specs.Fits.{is_name}
use Rattle.loft_lex.specs.Word.{spelling, words, word_of, is_word}
use Rattle.loft_lex.specs.declared.word.Word.{Word}
use Rattle.loft_report_shape.specs.Sets.{is_name_part, names}

-- bytes that are longer than each word are none
short_words : list_all (λ one. nat_le (length (spelling one)) 11) words ≡ true
short_words = refl

none_long : (ws : List Word) (bytes : List ℕ) → list_all (λ one. nat_le (length (spelling one)) 11) ws ≡ true → 11 < length bytes → is_some (find (λ one. bytes_eq (spelling one) bytes) ws) ≡ false
none_long [] bytes e h = refl
none_long (w ∷ ws) bytes e h = go (none_long ws bytes p.1 h) (bytes_eq (spelling w) bytes) refl
  where
    p : (nat_le (length (spelling w)) 11 ≡ true) × (list_all (λ one. nat_le (length (spelling one)) 11) ws ≡ true)
    p = and_both (nat_le (length (spelling w)) 11) (list_all (λ one. nat_le (length (spelling one)) 11) ws) e

    go : is_some (find (λ one. bytes_eq (spelling one) bytes) ws) ≡ false → (b : Bool) → bytes_eq (spelling w) bytes ≡ b → is_some (find (λ one. bytes_eq (spelling one) bytes) (w ∷ ws)) ≡ false
    go ih true f = absurd (let same : spelling w ≡ bytes = (bytes_eq-Decides (spelling w) bytes).0 f in let l : length (spelling w) ≡ length bytes = ap (λ (t : List ℕ). length t) same in omega (arith, leb-true (length (spelling w)) 11 p.0, l))
    go ih false f = rw f ih

unfoldable underscores : ℕ → List ℕ
underscores zero = []
underscores (suc n) = 95 ∷ underscores n

many_underscores : (n : ℕ) → (length (underscores n) ≡ n) × (list_all is_name_byte (underscores n) ≡ true)
unfolding underscores
many_underscores zero = (refl, refl)
many_underscores (suc n) = let h = many_underscores n in (omega (arith, h.0), h.1)

all_joined : (v w : List ℕ) → list_all is_name_byte v ≡ true → list_all is_name_byte w ≡ true → list_all is_name_byte (v ++ w) ≡ true
all_joined [] w p q = q
all_joined (b ∷ v) w p q = let r = and_both (is_name_byte b) (list_all is_name_byte v) p in both_and (is_name_byte b) (list_all is_name_byte (v ++ w)) r.0 (all_joined v w r.1 q)

all_front : (v w : List ℕ) → list_all is_name_byte (v ++ w) ≡ true → list_all is_name_byte v ≡ true
all_front [] w p = refl
all_front (b ∷ v) w p = let r = and_both (is_name_byte b) (list_all is_name_byte (v ++ w)) p in both_and (is_name_byte b) (list_all is_name_byte v) r.0 (all_front v w r.1)

letter_inside : (b : ℕ) → is_letter b ≡ true → is_name_byte b ≡ true
letter_inside b e = rw e refl

name_is : (b : ℕ) (w : List ℕ) → is_letter b ≡ true → list_all is_name_byte (b ∷ w) ≡ true → nat_le (length (b ∷ w)) 64 ≡ true → is_word (b ∷ w) ≡ false → is_name (b ∷ w) ≡ true
name_is b w p q r s =
    both_and (is_letter b && list_all is_name_byte (b ∷ w) && nat_le (length (b ∷ w)) 64) (not (is_word (b ∷ w)))
    (both_and (is_letter b && list_all is_name_byte (b ∷ w)) (nat_le (length (b ∷ w)) 64) (both_and (is_letter b) (list_all is_name_byte (b ∷ w)) p q) r)
    (ap not s)

no_word : (bytes : List ℕ) → 11 < length bytes → is_word bytes ≡ false
unfolding word_of
no_word bytes h = none_long words bytes short_words h

completed : (b : ℕ) (w : List ℕ) → is_name_part (b ∷ w) ≡ true → is_name ((b ∷ w) ++ underscores (64 - length (b ∷ w))) ≡ true
completed b w e =
    let p = and_both (is_letter b && list_all is_name_byte w) (nat_le (length (b ∷ w)) 64) e in
    let q = and_both (is_letter b) (list_all is_name_byte w) p.0 in
    let n = 64 - length (b ∷ w) in
    let u = many_underscores n in
    let short = leb-true (length (b ∷ w)) 64 p.1 in
    let len : length ((b ∷ w) ++ underscores n) ≡ 64 = omega (arith, length-append (b ∷ w) (underscores n), u.0, short) in
    let inside : list_all is_name_byte (b ∷ w) ≡ true = both_and (is_name_byte b) (list_all is_name_byte w) (letter_inside b q.0) q.1 in
    name_is b (w ++ underscores n) q.0 (all_joined (b ∷ w) (underscores n) inside u.1)
    (le-leb (length ((b ∷ w) ++ underscores n)) 64 (omega (arith, len)))
    (no_word ((b ∷ w) ++ underscores n) (omega (arith, len)))

name_front : (w more : List ℕ) → is_name (w ++ more) ≡ true → is_name_part w ≡ true
name_front [] more e = refl
name_front (b ∷ w) more e =
    let p = and_both (is_letter b && list_all is_name_byte (b ∷ (w ++ more)) && nat_le (length (b ∷ (w ++ more))) 64) (not (is_word (b ∷ (w ++ more)))) e in
    let q = and_both (is_letter b && list_all is_name_byte (b ∷ (w ++ more))) (nat_le (length (b ∷ (w ++ more))) 64) p.0 in
    let r = and_both (is_letter b) (list_all is_name_byte (b ∷ (w ++ more))) q.0 in
    let s = and_both (is_name_byte b) (list_all is_name_byte (w ++ more)) r.1 in
    let short = leb-true (length (b ∷ (w ++ more))) 64 q.1 in
    let less : length (b ∷ w) ≤ 64 = omega (arith, length-append w more, short) in
    both_and (is_letter b && list_all is_name_byte w) (nat_le (length (b ∷ w)) 64) (both_and (is_letter b) (list_all is_name_byte w) r.0 (all_front w more s.1)) (le-leb (length (b ∷ w)) 64 less)

pub honest_names : Honest names
unfolding word_of
honest_names = record { sound = sound; complete = name_front; some = refl; live = refl }
  where
    sound : (w : List ℕ) → is_name_part w ≡ true → (more : List ℕ) × (is_name (w ++ more) ≡ true)
    sound [] e = (65 ∷ [], refl)
    sound (b ∷ w) e = (underscores (64 - length (b ∷ w)), completed b w e)
