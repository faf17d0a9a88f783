-- Sums over the first numbers.
use Rattle.std.proofs.Common.{◌≡◌, ℕ, zero, suc, ◌+◌, ◌<◌, ◌≤◌, refl, ap, arith}
use mathlib.Core.Logic.{dite}
use native.Mathlib.Decide.{ℕ_discrete}
use Rattle.loft_history_laws.specs.Places.{total}

pub total_same : (n : ℕ) (f g : ℕ → ℕ) → ((s : ℕ) → s < n → f s ≡ g s) → total n f ≡ total n g
total_same zero f g same = refl
total_same (suc n) f g same = let p = total_same n f g (λ s lt. same s (omega (arith, lt))) in let q = same n (omega arith) in omega (arith, p, q)

pub total_add : (n : ℕ) (f g : ℕ → ℕ) → total n (λ s. f s + g s) ≡ total n f + total n g
total_add zero f g = refl
total_add (suc n) f g = let p = total_add n f g in omega (arith, p)

pub total_none : (n : ℕ) (f : ℕ → ℕ) → ((s : ℕ) → f s ≡ 0) → total n f ≡ 0
total_none zero f none = refl
total_none (suc n) f none = let p = total_none n f none in let q = none n in omega (arith, p, q)

-- two sums that differ at one place
pub total_at : (n q : ℕ) (f g : ℕ → ℕ) → q < n → ((s : ℕ) → s < n → (s ≡ q → ⊥) → f s ≡ g s) → total n f + g q ≡ total n g + f q
total_at zero q f g lt same = absurd (omega (arith, lt))
total_at (suc n) q f g lt same =
    dite (ℕ_discrete n q)
    (λ is. let p = total_same n f g (λ s l. same s (omega (arith, l)) (λ e. omega (arith, is, l, e))) in let a = ap f is in let b = ap g is in omega (arith, p, a, b))
    (λ apart. let p = total_at n q f g (omega (arith, apart, lt)) (λ s l off. same s (omega (arith, l)) off) in let r = same n (omega arith) apart in omega (arith, p, r))

-- one place is no more than the sum
pub total_le : (n q : ℕ) (f : ℕ → ℕ) → q < n → f q ≤ total n f
total_le zero q f lt = absurd (omega (arith, lt))
total_le (suc n) q f lt =
    dite (ℕ_discrete n q)
    (λ is. let a = ap f is in omega (arith, a))
    (λ apart. let p = total_le n q f (omega (arith, apart, lt)) in omega (arith, p))

-- two places are no more than the sum
pub total_two : (n q s : ℕ) (f : ℕ → ℕ) → q < n → s < n → (q ≡ s → ⊥) → f q + f s ≤ total n f
total_two zero q s f lt l2 apart = absurd (omega (arith, lt))
total_two (suc n) q s f lt l2 apart =
    dite (ℕ_discrete n q)
    (λ is. let a = ap f is in let p = total_le n s f (omega (arith, apart, is, l2)) in omega (arith, a, p))
    (λ off. dite (ℕ_discrete n s)
    (λ is. let a = ap f is in let p = total_le n q f (omega (arith, apart, is, lt)) in omega (arith, a, p))
    (λ off2. let p = total_two n q s f (omega (arith, off, lt)) (omega (arith, off2, l2)) apart in omega (arith, p)))
