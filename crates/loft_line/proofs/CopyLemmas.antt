-- Copies, where there is memory for them.
use Rattle.std.proofs.Common.{◌≡◌, Result, Ok, Err, IfOk, sym, subst}

-- what holds of a value holds of its copy
pub copied : {X E : Type 0} (copy : Result X E) (x : X) (P : X → Type 0) → IfOk copy (λ y. y ≡ x) → P x → IfOk copy P
copied (Ok y) x P is h = subst P (sym is) h
copied (Err e) x P is h = tt
