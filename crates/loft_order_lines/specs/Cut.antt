-- Bytes that are cut at a byte.
use Rattle.std.specs.Prelude.{◌≡◌, ℕ, Bool, true, not, ◌==◌, List, [], ◌∷◌, ◌++◌, ◌⊎◌}
use Rattle.std.specs.List.{list_all}

-- the byte isn't among these
abbrev pub lacks : ℕ → List ℕ → Bool
lacks c bytes = list_all (λ b. not (b == c)) bytes

abbrev pub Lacks : ℕ → List ℕ → Type 0
Lacks c bytes = lacks c bytes ≡ true

-- front is what comes before the first of these bytes, and rest what comes after it; where there is none, all and nothing
pub record IsCut (c : ℕ) (bytes front rest : List ℕ) : Type 0 where
  pub lack : Lacks c front
  pub whole : (bytes ≡ front ++ c ∷ rest) ⊎ ((bytes ≡ front) × (rest ≡ []))
