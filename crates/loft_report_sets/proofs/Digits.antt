-- What digits tell of a number, and one more byte of a printed line.
use Rattle.std.proofs.Common.{◌≡◌, ℕ, zero, suc, ◌+◌, ◌*◌, ◌-◌, ◌<◌, ◌≤◌, ◌==◌, not, nat_le, Bool, true, false, ◌&&◌, ◌||◌, List, [], ◌∷◌, length, get_or, take, drop, arith, refl}
use Rattle.std.proofs.lemmas.List.{take_all}
use Rattle.std.proofs.lemmas.Bool.{leb-true}
use Rattle.std.specs.List.{list_all}
use Rattle.loft_spelling.specs.Sets.{value_of, value_after, is_number, is_digit, is_line, is_line_part, is_empty, is_printed}
use Rattle.loft_spelling.proofs.Sets.{value_grows, and_both}

-- A number that passes its limit at a digit passes it at the end.
pub too_large : (n : ℕ) (bs : List ℕ) (most : ℕ) → 0 < length bs → most < n * 10 + (get_or bs 0 0 - 48) → most < value_after n bs
unfolding value_after
too_large n [] most h k = absurd (omega arith)
too_large n (b ∷ bs) most h k = omega (arith, value_grows (n * 10 + (b - 48)) bs)

-- what the code calls the rest of a list that isn't empty
pub tail_is : (b : ℕ) (bs : List ℕ) → take (length (b ∷ bs) - 1) (drop 1 (b ∷ bs)) ≡ bs
tail_is b bs = let e : suc (length bs) - 1 ≡ length bs = omega arith in rw e (take_all (length bs) bs (omega arith))

pub line_more : (n : ℕ) (bs : List ℕ) (r : Bool) → 0 < length bs → (n ≡ 0 → ⊥) → false ≡ (get_or bs 0 0 == 10 && is_empty (take (length bs - 1) (drop 1 bs))) → true ≡ is_printed (get_or bs 0 0)
    → r ≡ is_line (n - 1) (take (length bs - 1) (drop 1 bs)) → r ≡ is_line n bs
unfolding is_line
line_more n [] r h k p q e = absurd (omega arith)
line_more zero (b ∷ bs) r h k p q e = absurd (k refl)
line_more (suc n) (b ∷ bs) r h k p q e =
    let f : suc n - 1 ≡ n = omega arith in
    let g : r ≡ is_line n bs = rw (f, tail_is b bs) at e in
    let i : false ≡ (b == 10 && is_empty bs) = rw (tail_is b bs) at p in
    rw (← i, ← q) g

pub part_more : (n : ℕ) (bs : List ℕ) (r : Bool) → 0 < length bs → (n ≡ 0 → ⊥) → false ≡ (get_or bs 0 0 == 10 && is_empty (take (length bs - 1) (drop 1 bs))) → true ≡ is_printed (get_or bs 0 0)
    → r ≡ is_line_part (n - 1) (take (length bs - 1) (drop 1 bs)) → r ≡ is_line_part n bs
unfolding is_line_part
part_more n [] r h k p q e = absurd (omega arith)
part_more zero (b ∷ bs) r h k p q e = absurd (k refl)
part_more (suc n) (b ∷ bs) r h k p q e =
    let f : suc n - 1 ≡ n = omega arith in
    let g : r ≡ is_line_part n bs = rw (f, tail_is b bs) at e in
    let i : false ≡ (b == 10 && is_empty bs) = rw (tail_is b bs) at p in
    rw (← i, ← q) g

-- A number of a set isn't above its limit.
pub number_small : (nought : Bool) (most : ℕ) (w : List ℕ) → is_number nought most w ≡ true → value_of w ≤ most
number_small nought most [] e = absurd cc
number_small nought most (b ∷ w) e =
    let p = and_both (not (b == 48) || (nought && is_empty w)) (list_all is_digit (b ∷ w) && nat_le (value_of (b ∷ w)) most) e in
    leb-true (value_of (b ∷ w)) most (and_both (list_all is_digit (b ∷ w)) (nat_le (value_of (b ∷ w)) most) p.1).1
