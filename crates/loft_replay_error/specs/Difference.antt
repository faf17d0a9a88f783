-- Where two texts differ.
use Rattle.std.specs.Prelude.{◌≡◌, ℕ, ◌+◌, List, take, Option, Some, None}

-- the texts are alike in their first k bytes, and no further: there they have different bytes, or one of them ends
abbrev pub DifferAt : List ℕ → List ℕ → ℕ → Type 0
DifferAt a b k = (take k a ≡ take k b) × (take (k + 1) a ≡ take (k + 1) b → ⊥)

-- after how many bytes the texts differ, or that they are one text
abbrev pub IsDifference : List ℕ → List ℕ → Option ℕ → Type 0
IsDifference a b None = a ≡ b
IsDifference a b (Some k) = DifferAt a b k
