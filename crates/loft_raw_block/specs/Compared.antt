-- Texts that are compared piece by piece.
use Rattle.std.specs.Prelude.{◌≡◌, ℕ, ◌+◌, ◌<◌, ◌≤◌, Bool, true, false, List, ◌++◌, length, take, get_or}
use Rattle.loft_replay_error.specs.Difference.{DifferAt}

-- so many bytes at the front are the same, and no more
pub record SameFront (one other : List ℕ) (count : ℕ) : Type 0 where
  pub in_one : count ≤ length one
  pub in_other : count ≤ length other
  pub same : take count one ≡ take count other
  pub last : count < length one → count < length other → get_or one count 0 ≡ get_or other count 0 → ⊥

-- front is the text but for what is left; or it differs from the text, and what is left comes after the bytes that are the same
abbrev pub Matches : List ℕ → List ℕ → Bool → List ℕ → Type 0
Matches text left true front = text ≡ front ++ left
Matches text left false front = (k : ℕ) × (k < length front) × (k + length left ≡ length text) × DifferAt front text k
