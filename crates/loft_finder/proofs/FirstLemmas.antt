-- The first place of a key.
use Rattle.std.proofs.Common.{◌≡◌, ℕ, ◌<◌, Bool, true, false, List, [], ◌∷◌, refl, sym, ◌∙◌, ap, subst, arith}
use Rattle.std.specs.declared.cmp.Ordering.{Ordering}
use Rattle.std.specs.declared.cmp.Ordering.TheVariants.{Less, Equal, Greater}
use Rattle.std.specs.declared.ops.Bound.TheVariants.{Included}
use Rattle.std.specs.Ordering.{is_gt, ordering_then, nat_cmp}
use Rattle.std.specs.BTreeSet.{BTreeSet, contains, IsKeyRangeOf}
use Rattle.loft_finder.specs.declared.key.IdKey.{IdKey}
use Rattle.loft_finder.specs.Finder.{Place, place_cmp}
use Rattle.loft_finder.specs.Keys.{key_cmp}
use Rattle.loft_finder.proofs.KeyLemmas.{key_back, place_le, number_above}

abbrev pub AllOf : IdKey → ℕ → BTreeSet Place → List Place → Type 0
AllOf key len places r = IsKeyRangeOf place_cmp (Included (key, 0)) (Included (key, len)) places r

-- where the range is empty, nobody is listed
pub none_listed : (key : IdKey) (len : ℕ) (places : BTreeSet Place) (r : List Place) → AllOf key len places r → r ≡ [] → (i : ℕ) → i < len → contains place_cmp places (key, i) ≡ false
none_listed key len places r all none i below = all.5 none (key, i) (place_le key 0 i (omega arith), place_le key i len (omega (arith, below)))

-- a key that isn't before another, with a position after another's, isn't before it
not_before : (key k : IdKey) (p i : ℕ) → i < p → is_gt (place_cmp (key, 0) (k, p)) ≡ false → is_gt (place_cmp (k, p) (key, i)) ≡ false → ⊥
not_before key k p i above from le = one (key_cmp k key) refl le
  where
    one : (o : Ordering) → key_cmp k key ≡ o → is_gt (ordering_then o (nat_cmp p i)) ≡ false → ⊥
    one Less e g = let f : true ≡ false = sym (ap (λ (x : Ordering). is_gt (ordering_then x (nat_cmp 0 p))) (key_back k key e)) ∙ from in cc
    one Equal e g = let f : true ≡ false = sym (ap is_gt (number_above p i above)) ∙ g in cc
    one Greater e g = cc

by_contents : (b : Bool) → (b ≡ true → ⊥) → b ≡ false
by_contents true h = absurd (h refl)
by_contents false h = refl

-- nobody is listed before the first place of the range
pub none_before : (key : IdKey) (len : ℕ) (places : BTreeSet Place) (r : List Place) (x : Place) (t : List Place) → AllOf key len places r → r ≡ x ∷ t → (i : ℕ) → i < x.1 → i < len → contains place_cmp places (key, i) ≡ false
none_before key len places r x t all is i before below =
    let these : AllOf key len places (x ∷ t) = subst (AllOf key len places) is all in
    by_contents (contains place_cmp places (key, i)) (λ listed.
    not_before key x.0 x.1 i before these.1.0.0 (these.2 (key, i) (place_le key 0 i (omega arith), place_le key i len (omega (arith, below))) listed))
