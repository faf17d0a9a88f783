-- A number that is a whole spelling of a set is one of that set or another, and so is a sign.
use Rattle.std.proofs.Common.{◌≡◌, ℕ, zero, suc, ◌+◌, ◌<◌, ◌≤◌, nat_le, Bool, true, false, ◌==◌, ◌&&◌, ◌||◌, List, [], ◌∷◌, length, get_or, take, arith, refl}
use Rattle.std.proofs.lemmas.Bool.Decides.{nat_tests}
use Rattle.std.specs.List.{list_all}
use Rattle.loft_spelling.specs.Sets.{Set, either, is_digit, is_prefix}
use Rattle.loft_spelling.proofs.Sets.{and_both}
use Rattle.loft_report_shape.specs.Sets.{integers, makers, set_of, sign, signs, values}
use Rattle.loft_report_shape.specs.declared.part.Part.TheVariants.{FirstCount, FirstValue, Limit, Value}
use Rattle.loft_report_sets.specs.Taken.{Run}
use Rattle.loft_report_reader.specs.Ahead.{There}

pub first_digit : (bytes : List ℕ) (n : ℕ) → Run is_digit 20 bytes n → 0 < n → n < length bytes → is_digit (get_or bytes 0 0) ≡ true
first_digit [] n run some more = absurd (omega (arith, more))
first_digit (b ∷ bs) zero run some more = absurd (omega (arith, some))
first_digit (b ∷ bs) (suc m) run some more = (and_both (is_digit b) (list_all is_digit (take m bs)) run.all).0

or_left : (a b : Bool) → a ≡ true → (a || b) ≡ true
or_left a b e = rw e refl

or_none : (a b : Bool) → a ≡ false → b ≡ false → (a || b) ≡ false
or_none a b e f = rw (e, f) refl

no_begin : (t : Set) → ((b : ℕ) (w : List ℕ) → is_digit b ≡ true → t.begun (b ∷ w) ≡ false) → (u : List ℕ) (n : ℕ) → n < length u → is_digit (get_or u 0 0) ≡ true → t.begun (take (n + 1) u) ≡ false
no_begin t f [] n more e = absurd (omega (arith, more))
no_begin t f (b ∷ bs) n more e = let k : n + 1 ≡ suc n = omega arith in rw k (f b (take n bs) e)

of_either : (s t : Set) → ((b : ℕ) (w : List ℕ) → is_digit b ≡ true → t.begun (b ∷ w) ≡ false) → (u : List ℕ) (n : ℕ) → There s u n → is_digit (get_or u 0 0) ≡ true → There (either s t) u n
of_either s t f u n h e = record {
  taken = record {
    within = h.taken.within;
    begun = or_left (s.begun (take n u)) (t.begun (take n u)) h.taken.begun;
    last = λ k. or_none (s.begun (take (n + 1) u)) (t.begun (take (n + 1) u)) (h.taken.last k) (no_begin t f u n h.more e);
  };
  whole = or_left (s.whole (take n u)) (t.whole (take n u)) h.whole;
  more = h.more;
}

no_maker : (b : ℕ) (w : List ℕ) → is_digit b ≡ true → makers.begun (b ∷ w) ≡ false
unfolding is_prefix
no_maker b w e =
    let letter : ((nat_le 65 b && nat_le b 90) || (nat_le 97 b && nat_le b 122) || b == 95) ≡ false = grind (arith, nat_tests, e) in
    let start : (b == 115) ≡ false = grind (arith, nat_tests, e) in
    rw (letter, start) refl

no_bracket : (b : ℕ) (w : List ℕ) → is_digit b ≡ true → (sign 41).begun (b ∷ w) ≡ false
unfolding is_prefix
no_bracket b w e = let other : (b == 41) ≡ false = grind (arith, nat_tests, e) in rw other refl

no_minus : (b : ℕ) (w : List ℕ) → is_digit b ≡ true → (sign 45).begun (b ∷ w) ≡ false
unfolding is_prefix
no_minus b w e = let other : (b == 45) ≡ false = grind (arith, nat_tests, e) in rw other refl

pub value_digits : (u : List ℕ) (n : ℕ) → There integers u n → is_digit (get_or u 0 0) ≡ true → There (set_of Value) u n
value_digits u n h e = of_either integers makers no_maker u n h e

pub first_value_digits : (u : List ℕ) (n : ℕ) → There integers u n → is_digit (get_or u 0 0) ≡ true → There (set_of FirstValue) u n
first_value_digits u n h e = of_either values (sign 41) no_bracket u n (value_digits u n h e) e

pub limit_digits : (u : List ℕ) (n : ℕ) → There integers u n → is_digit (get_or u 0 0) ≡ true → There (set_of Limit) u n
limit_digits u n h e = of_either integers (sign 45) no_minus u n h e

pub no_counts : (bytes : List ℕ) → 2 ≤ length bytes → get_or bytes 0 0 ≡ 93 → There (set_of FirstCount) bytes 1
unfolding is_prefix
no_counts [] some e = absurd (omega (arith, some))
no_counts (c ∷ []) some e = absurd (omega (arith, some))
no_counts (c ∷ d ∷ bs) some e = rw e (record { taken = record { within = omega arith; begun = refl; last = λ _. refl }; whole = refl; more = omega arith })

and_none : (a : Bool) → (a && false) ≡ false
and_none true = refl
and_none false = refl

two_none : (a b : Bool) → ((a && false) || ((b && false) || false)) ≡ false
two_none a b = rw (and_none a, and_none b) refl

pub first_of_two : (a b : ℕ) (bytes : List ℕ) → 2 ≤ length bytes → get_or bytes 0 0 ≡ a → There (signs a b) bytes 1
unfolding is_prefix
first_of_two a b [] some e = absurd (omega (arith, some))
first_of_two a b (c ∷ []) some e = absurd (omega (arith, some))
first_of_two a b (c ∷ d ∷ bs) some e =
    let f : (c == a) ≡ true = grind (arith, nat_tests, e) in
    let g : (a == c) ≡ true = grind (arith, nat_tests, e) in
    record { taken = record { within = omega arith; begun = rw f refl; last = λ _. two_none (c == a) (c == b) }; whole = rw g refl; more = omega arith }

or_right : (a : Bool) → (a || (true || false)) ≡ true
or_right true = refl
or_right false = refl

pub second_of_two : (a b : ℕ) (bytes : List ℕ) → 2 ≤ length bytes → get_or bytes 0 0 ≡ b → There (signs a b) bytes 1
unfolding is_prefix
second_of_two a b [] some e = absurd (omega (arith, some))
second_of_two a b (c ∷ []) some e = absurd (omega (arith, some))
second_of_two a b (c ∷ d ∷ bs) some e =
    let f : (c == b) ≡ true = grind (arith, nat_tests, e) in
    let g : (b == c) ≡ true = grind (arith, nat_tests, e) in
    record { taken = record { within = omega arith; begun = rw f (or_right (c == a && true)); last = λ _. two_none (c == a) (c == b) }; whole = rw g (or_right (a == c && true)); more = omega arith }
