-- Numbers that rise.
use Rattle.std.specs.Prelude.{ℕ, ◌<◌, ◌≤◌, ◌==◌, Bool, List, length, slice_index_or}
use Rattle.std.specs.List.{list_any}

-- each number is at least those before it
abbrev pub IsRising : List ℕ → Type 0
IsRising xs = (i j : ℕ) → i ≤ j → j < length xs → slice_index_or xs i 0 ≤ slice_index_or xs j 0

-- a number is above all of these
abbrev pub IsAbove : ℕ → List ℕ → Type 0
IsAbove n xs = (i : ℕ) → i < length xs → slice_index_or xs i 0 < n

-- a number is one of these
abbrev pub has_number : ℕ → List ℕ → Bool
has_number n xs = list_any (λ m. m == n) xs
