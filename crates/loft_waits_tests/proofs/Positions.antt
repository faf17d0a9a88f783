-- Positions where nobody waits.
use Rattle.std.proofs.Common.{◌≡◌, ◌++◌, ◌∷◌, [], List, ℕ, zero, suc, length, refl, ap, ◌∙◌, arith}
use Rattle.std.specs.Prelude.{slice_index_or, Option, None}
use Rattle.loft_orders.specs.declared.thread.Wait.{Wait}
use Rattle.loft_waits.specs.Told.{Told, nobody, IsFreeFrom}

-- the first position of all is one where nobody waits
pub first_free : (ws : List (Option Wait)) → length ws ≡ 0 → slice_index_or (ws ++ None ∷ []) 0 None ≡ None
first_free [] h = refl
first_free (w ∷ ws) h = absurd (omega (arith, h))

none_at : (i : ℕ) → slice_index_or (nobody ∷ nobody ∷ []) i None ≡ None
none_at zero = refl
none_at (suc zero) = refl
none_at (suc (suc i)) = refl

-- nobody waits at two positions, and none comes after them
pub free_after : (t : Told) → t.waits ≡ nobody ∷ nobody ∷ [] → IsFreeFrom t 1
free_after t h i within = ap (λ (ws : List (Option Wait)). slice_index_or ws i None) h ∙ none_at i
