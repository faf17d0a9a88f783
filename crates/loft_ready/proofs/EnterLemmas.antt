-- A wait is entered.
use Rattle.std.proofs.Common.{◌≡◌, ℕ, zero, suc, List, [], ◌∷◌, ◌++◌, sym, ap, arith, Option, None, length, get_or, set}
use Rattle.std.proofs.lemmas.List.{get_or_push}
use Rattle.loft_orders.specs.declared.thread.Wait.{Wait}

pub set_last : (ws : List (Option Wait)) (p : ℕ) (v w : Option Wait) → p ≡ length ws → set (ws ++ v ∷ []) p w ≡ ws ++ w ∷ []
set_last [] p v w h = ap (λ (k : ℕ). set (v ∷ []) k w) h
set_last (x ∷ ws) zero v w h = absurd (omega (arith, h))
set_last (x ∷ ws) (suc p) v w h = ap (λ (l : List (Option Wait)). x ∷ l) (set_last ws p v w (omega (arith, h)))

pub last_none : (ws : List (Option Wait)) (p : ℕ) → p ≡ length ws → get_or (ws ++ None ∷ []) p None ≡ None
last_none ws p h = get_or_push ws None None p (sym h)
