-- Bytes that are put after others.
use Rattle.std.proofs.Common.{◌≡◌, ◌∙◌, ◌++◌, ℕ, List, ap}
use Rattle.std.proofs.lemmas.List.{append_assoc}

-- what is put comes before what is put after it
pub more : (a x rest b : List ℕ) → b ≡ a ++ x → b ++ rest ≡ a ++ (x ++ rest)
more a x rest b e = ap (λ (l : List ℕ). l ++ rest) e ∙ append_assoc a x rest
