-- Flags of positions.
use Rattle.std.specs.Prelude.{◌≡◌, ℕ, ◌<◌, ◌≤◌, ◌==◌, Bool, true, List, slice_index_or}

-- whether the flag of a position is set
abbrev pub is_set : List ℕ → ℕ → Bool
is_set bytes i = slice_index_or bytes i 0 == 1

-- flags are set only from one position on and before another
abbrev pub IsWithin : ℕ → ℕ → List ℕ → Type 0
IsWithin first end bytes = (i : ℕ) → is_set bytes i ≡ true → (first ≤ i) × (i < end)
