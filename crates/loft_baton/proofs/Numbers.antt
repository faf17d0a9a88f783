-- Passes at their numbers, before and after a step.
use Rattle.std.proofs.Common.{◌≡◌, ◌≢◌, ◌⊎◌, ℕ, zero, suc, List, [], ◌∷◌, ◌++◌, length, set, refl, sym, ap, ◌∙◌, subst, inl, inr, ⊎_elim}
use mathlib.Core.Option.{some, some-injective, some-ne-none}
use mathlib.Core.Logic.{dite}
use native.Mathlib.Decide.{ℕ_discrete}
use lib.ListN.{get_elem?}
use Rattle.crossbeam_queue.proofs.Lists.{at_set, set_else, at_longer}
use Rattle.loft_baton.specs.declared.knows.Knows.{Knows}
use Rattle.loft_baton.specs.Knowing.{fresh}
use Rattle.loft_baton.specs.Rule.{There}

pub all_set : (F : ℕ → Knows → Type 0) (views : List Knows) (number : ℕ) (w : Knows) → ((j : ℕ) (u : Knows) → j ≢ number → get_elem? views j ≡ some u → F j u) → F number w → (j : ℕ) (u : Knows) → get_elem? (set views number w) j ≡ some u → F j u
all_set F views number w others mine j u e =
    ⊎_elim
    (λ (x : (j ≡ number) × (w ≡ u)). subst (λ (y : ℕ × Knows). F y.0 y.1) (λ i. (sym x.0 i, x.1 i)) mine)
    (λ (x : (j ≢ number) × (get_elem? views j ≡ some u)). others j u x.0 x.1)
    (at_set views number j w u e)

pub at_end : (l : List Knows) (a b : Knows) (j : ℕ) → get_elem? (l ++ a ∷ []) j ≡ some b → (get_elem? l j ≡ some b) ⊎ ((j ≡ length l) × (a ≡ b))
at_end [] a b zero e = inr (refl, some-injective a b e)
at_end [] a b (suc j) e = absurd (some-ne-none b (sym e))
at_end (x ∷ xs) a b zero e = inl e
at_end (x ∷ xs) a b (suc j) e = ⊎_elim (λ t. inl t) (λ (t : (j ≡ length xs) × (a ≡ b)). inr (ap suc t.0, t.1)) (at_end xs a b j e)

pub only : (number : ℕ) (v : Knows) → get_elem? (fresh ∷ []) number ≡ some v → (fresh ≡ v) × (number ≡ 0)
only zero v e = (some-injective fresh v e, refl)
only (suc number) v e = absurd (some-ne-none v (sym e))

-- the pass that took the step
pub now_at : (views : List Knows) (number : ℕ) (v w : Knows) → get_elem? views number ≡ some v → get_elem? (set views number w) number ≡ some w
now_at [] number v w e = absurd (some-ne-none v (sym e))
now_at (x ∷ xs) zero v w e = refl
now_at (x ∷ xs) (suc number) v w e = now_at xs number v w e

-- a pass that was there is there still
pub still : (P : Knows → Type 0) (views : List Knows) (number : ℕ) (v w : Knows) (n : ℕ) → get_elem? views number ≡ some v → (P v → P w) → There views n P → There (set views number w) n P
still P views number v w n at keeps was =
    dite (ℕ_discrete n number)
    (λ same.
    let is : was.0 ≡ v = some-injective _ _ (sym was.1 ∙ ap (get_elem? views) same ∙ at) in
    (w, ap (get_elem? (set views number w)) same ∙ now_at views number v w at, keeps (subst P is was.2)))
    (λ apart. (was.0, set_else views number n w apart ∙ was.1, was.2))

-- a pass that is not at the place of the step is there still
pub still_else : (P : Knows → Type 0) (views : List Knows) (number : ℕ) (w : Knows) (n : ℕ) → n ≢ number → There views n P → There (set views number w) n P
still_else P views number w n apart was = (was.0, set_else views number n w apart ∙ was.1, was.2)

pub still_more : (P : Knows → Type 0) (views more : List Knows) (n : ℕ) → There views n P → There (views ++ more) n P
still_more P views more n was = (was.0, at_longer views more n was.0 was.1, was.2)
