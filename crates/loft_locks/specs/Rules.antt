-- The four rules of pairs: how a body is made of pairs (docs/LOCKS.md, "Pairs").
use Rattle.std.specs.Prelude.{◌≡◌, ℕ, false, List, ◌∷◌}
use Rattle.loft_locks.specs.Outline.{Outline, Nothing, Takes, Gives, Goes, Within, has}

-- statements of one body, before others of it
abbrev pub joined : Outline → Outline → Outline
joined Nothing after = after
joined (Takes l rest) after = Takes l (joined rest after)
joined (Gives l rest) after = Gives l (joined rest after)
joined (Goes rest) after = Goes (joined rest after)
joined (Within first second rest) after = Within first second (joined rest after)

-- Each `lock` is followed in the same body by its `unlock`, each `unlock` is that of one `lock`, pairs nest, and a lock isn't
-- taken where a pair of it has begun; the bodies inside a pair belong to it.
pub data Paired : List (List ℕ) → Outline → Type 0 where
  nothing : (begun : List (List ℕ)) → Paired begun Nothing
  goes : (begun : List (List ℕ)) (rest : Outline) → Paired begun rest → Paired begun (Goes rest)
  within : (begun : List (List ℕ)) (first second rest : Outline) → Paired begun first → Paired begun second → Paired begun rest → Paired begun (Within first second rest)
  pair : (begun : List (List ℕ)) (l : List ℕ) (inner rest : Outline) → has l begun ≡ false → Paired (l ∷ begun) inner → Paired begun rest → Paired begun (Takes l (joined inner (Gives l rest)))
