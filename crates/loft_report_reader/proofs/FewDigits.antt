-- Few digits are a number of any kind that has room for them.
use Rattle.std.proofs.Common.{◌≡◌, ℕ, zero, suc, ◌+◌, ◌*◌, ◌-◌, ◌<◌, ◌≤◌, not, nat_le, Bool, true, false, ◌==◌, ◌&&◌, ◌||◌, List, [], ◌∷◌, length, arith, refl}
use Rattle.std.proofs.lemmas.Bool.Decides.{nat_tests}
use Rattle.std.proofs.lemmas.Bool.{le-leb}
use Rattle.std.specs.List.{list_all}
use Rattle.loft_spelling.specs.Sets.{is_digit, is_empty, is_number, value_after, value_of}
use Rattle.loft_spelling.proofs.Sets.{and_both, both_and, or_left}
use Rattle.loft_report_shape.specs.Sets.{number_set}
use Rattle.loft_report_shape.specs.declared.part.NumberKind.{NumberKind}
use Rattle.loft_report_shape.specs.declared.part.NumberKind.TheVariants as number
use Rattle.loft_report_reader.specs.Ahead.{few_digits, IsPlainNumber}

-- m with so many zeros behind it
unfoldable raised : ℕ → ℕ → ℕ
raised m zero = m
raised m (suc k) = raised (m * 10) k

digit_small : (b : ℕ) → is_digit b ≡ true → b ≤ 57
digit_small b e = grind (arith, nat_tests, e)

value_raised : (w : List ℕ) (n m : ℕ) → n < m → list_all is_digit w ≡ true → value_after n w < raised m (length w)
unfolding value_after raised
value_raised [] n m less all = less
value_raised (b ∷ w) n m less all =
    let p = and_both (is_digit b) (list_all is_digit w) all in
    value_raised w (n * 10 + (b - 48)) (m * 10) (omega (arith, less, digit_small b p.0)) p.1

raised_grows : (k m : ℕ) → m ≤ raised m k
unfolding raised
raised_grows zero m = omega arith
raised_grows (suc k) m = omega (arith, raised_grows k (m * 10))

raised_more : (k j m : ℕ) → k ≤ j → raised m k ≤ raised m j
unfolding raised
raised_more zero j m few = raised_grows j m
raised_more (suc k) zero m few = absurd (omega (arith, few))
raised_more (suc k) (suc j) m few = raised_more k j (m * 10) (omega (arith, few))

value_few : (w : List ℕ) (k most : ℕ) → list_all is_digit w ≡ true → length w ≤ k → raised 1 k ≤ most → value_of w ≤ most
value_few w k most all few room = omega (arith, value_raised w 0 1 (omega arith) all, raised_more (length w) k 1 few, room)

no_zeros : (b : ℕ) (w : List ℕ) → IsPlainNumber (b ∷ w) → (not (b == 48) || is_empty w) ≡ true
no_zeros b [] plain = go (not (b == 48))
  where
    go : (t : Bool) → (t || true) ≡ true
    go true = refl
    go false = refl
no_zeros b (c ∷ w) plain = go (b == 48) refl
  where
    go : (t : Bool) → (b == 48) ≡ t → (not t || false) ≡ true
    go true e = absurd (let is : b ≡ 48 = grind (arith, nat_tests, e) in omega (arith, plain.1 is))
    go false e = refl

few_number : (w : List ℕ) (k most : ℕ) → list_all is_digit w ≡ true → IsPlainNumber w → length w ≤ k → raised 1 k ≤ most → is_number true most w ≡ true
few_number [] k most all plain few room = absurd (omega (arith, plain.0))
few_number (b ∷ w) k most all plain few room =
    both_and (not (b == 48) || is_empty w) (list_all is_digit (b ∷ w) && nat_le (value_of (b ∷ w)) most) (no_zeros b w plain)
    (both_and (list_all is_digit (b ∷ w)) (nat_le (value_of (b ∷ w)) most) all (le-leb (value_of (b ∷ w)) most (value_few (b ∷ w) k most all few room)))

eighteen : raised 1 18 ≤ 9223372036854775807
unfolding raised
eighteen = omega arith

nine : raised 1 9 ≤ 4294967295
unfolding raised
nine = omega arith

none : (w : List ℕ) → IsPlainNumber w → length w ≤ 0 → ⊥
none w plain few = omega (arith, plain.0, few)

pub few_are_number : (kind : NumberKind) (w : List ℕ) → list_all is_digit w ≡ true → IsPlainNumber w → length w ≤ few_digits kind → (number_set kind).whole w ≡ true
few_are_number number.Instants w all plain few = absurd (none w plain few)
few_are_number number.Budget w all plain few = absurd (none w plain few)
few_are_number number.Block w all plain few = absurd (none w plain few)
few_are_number number.Workers w all plain few = absurd (none w plain few)
few_are_number number.History w all plain few = few_number w 18 9223372036854775807 all plain few eighteen
few_are_number number.Pick w all plain few = absurd (none w plain few)
few_are_number number.Post w all plain few = absurd (none w plain few)
few_are_number number.Stop w all plain few = few_number w 9 4294967295 all plain few nine
few_are_number number.States w all plain few = few_number w 18 9223372036854775807 all plain few eighteen
few_are_number number.Left w all plain few = few_number w 18 9223372036854775807 all plain few eighteen
few_are_number number.Count w all plain few = few_number w 18 9223372036854775807 all plain few eighteen
few_are_number number.Any w all plain few = or_left (is_number true 9223372036854775807 w) _ (few_number w 18 9223372036854775807 all plain few eighteen)
