-- The least of several offsets.
use Rattle.std.specs.Prelude.{ℕ, nat_lt, if◌then◌else◌, List, [], ◌∷◌, Option, Some, None}

-- the least so far, once n is found too
abbrev pub lesser : Option ℕ → ℕ → Option ℕ
lesser None n = Some n
lesser (Some m) n = if nat_lt n m then Some n else Some m

-- the least so far, once these are found too
abbrev pub least_of : Option ℕ → List ℕ → Option ℕ
least_of least [] = least
least_of least (n ∷ ns) = least_of (lesser least n) ns
