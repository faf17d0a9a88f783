-- The least of several numbers.
use Rattle.std.proofs.Common.{◌≡◌, ℕ, zero, suc, ◌≤◌, ◌<◌, ◌⊎◌, inl, inr, List, [], ◌∷◌, ◌++◌, refl, subst, arith}
use Rattle.std.specs.Prelude.{min}
use Rattle.std.specs.List.{Contains}
use Rattle.std.proofs.lemmas.Bool.{cases_order}
use Rattle.std.proofs.lemmas.List.Elements.{Contains-append_left, Contains-append_right, Contains-append_cases}
use Rattle.loft_listing_names.specs.Wrong.{IsLeast}

pub least_one : (n : ℕ) → IsLeast n (n ∷ [])
least_one n = record {
  there = (0, omega arith, refl);
  least = λ k has. one_same k has;
} where
  one_same : (k : ℕ) → Contains (n ∷ []) k → n ≤ k
  one_same k (zero, below, there) = omega (arith, there)
  one_same k (suc i, below, there) = absurd (omega arith)

pub least_left : (n : ℕ) (ms ns : List ℕ) → IsLeast n ms → ((k : ℕ) → Contains ns k → n ≤ k) → IsLeast n (ms ++ ns)
least_left n ms ns least later = record {
  there = Contains-append_left ms ns n least.there;
  least = λ k has. elim (Contains-append_cases ms ns k has) [ inl left ↦ least.least k left | inr right ↦ later k right ];
}

pub least_right : (n : ℕ) (ms ns : List ℕ) → ((k : ℕ) → Contains ms k → n ≤ k) → IsLeast n ns → IsLeast n (ms ++ ns)
least_right n ms ns later least = record {
  there = Contains-append_right ms ns n least.there;
  least = λ k has. elim (Contains-append_cases ms ns k has) [ inl left ↦ later k left | inr right ↦ least.least k right ];
}

-- the lesser of two least numbers
pub least_both : (k m n : ℕ) (ms ns : List ℕ) → k ≡ min m n → IsLeast m ms → IsLeast n ns → IsLeast k (ms ++ ns)
least_both k m n ms ns lesser one other = go (cases_order m n) where
  go : (m ≡ n) ⊎ ((m < n) ⊎ (n < m)) → IsLeast k (ms ++ ns)
  go (inl same) = let is : m ≡ k = omega arith in subst (λ x. IsLeast x (ms ++ ns)) is (least_left m ms ns one (λ x has. let le = other.least x has in omega arith))
  go (inr (inl lower)) = let is : m ≡ k = omega arith in subst (λ x. IsLeast x (ms ++ ns)) is (least_left m ms ns one (λ x has. let le = other.least x has in omega arith))
  go (inr (inr higher)) = let is : n ≡ k = omega arith in subst (λ x. IsLeast x (ms ++ ns)) is (least_right n ms ns (λ x has. let le = one.least x has in omega arith) other)

pub least_same : (m n : ℕ) (ns : List ℕ) → IsLeast m ns → IsLeast n ns → m ≡ n
least_same m n ns one other = let low = one.least n other.there in let high = other.least m one.there in omega arith

pub none_least : (n : ℕ) (ns : List ℕ) → ns ≡ [] → IsLeast n ns → ⊥
none_least n [] empty least = let (x, below, there) = least.there in absurd (omega arith)
none_least n (m ∷ ns) empty least = absurd cc
