-- What files and a sink may do.
use Rattle.std.specs.Prelude.{◌≡◌, ℕ, ◌-◌, ◌^◌, ◌<◌, ◌≤◌, ◌⊎◌, ◌==◌, Bool, false, List, [], ◌∷◌, ◌++◌, length, take, drop, Option, Some, None, if◌then◌else◌}
use Rattle.std.proofs.Common.{refl, ap, append_assoc}

-- the last value of a count of faults
abbrev pub last_count : ℕ
last_count = 2 ^ 64 - 1

-- a count of faults rose: it is higher than before, or stands at its last value
abbrev pub Rose : ℕ → ℕ → Type 0
Rose old new = new < last_count → old < new

-- a part of a file may begin at its start, or where the last part ended
abbrev pub IsNextPlace : ℕ → ℕ → Type 0
IsNextPlace from place = (from ≡ 0) ⊎ (from ≡ place)

-- the first `count` bytes of `into` are the file's from the offset `from`; none come only at or past its end
pub record IsPart (file : List ℕ) (from count : ℕ) (into : List ℕ) : Type 0 where
  pub bytes : take count into ≡ take count (drop from file)
  pub end : count ≡ 0 → length file ≤ from

-- the bytes written, where they are known, after these were appended
abbrev pub appended : Option (List ℕ) → List ℕ → Option (List ℕ)
appended None bytes = None
appended (Some written) bytes = Some (written ++ bytes)

-- the bytes written, where they are known, grew by a prefix of these
abbrev pub GrowsByPrefix : Option (List ℕ) → Option (List ℕ) → List ℕ → Type 0
GrowsByPrefix old new bytes = (n : ℕ) × (new ≡ appended old (take n bytes))

-- two pieces appended one after the other are their join appended
pub appended-append : (known : Option (List ℕ)) (a b : List ℕ) → appended (appended known a) b ≡ appended known (a ++ b)
appended-append None a b = refl
appended-append (Some written) a b = ap (λ x. Some x) (append_assoc written a b)

-- a piece is a line: its last byte is its only line feed
abbrev pub is_line : List ℕ → Bool
is_line [] = false
is_line (x ∷ rest) = if x == 10 then length rest == 0 else is_line rest
