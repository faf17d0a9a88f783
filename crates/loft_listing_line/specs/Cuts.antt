-- A text that is cut in two.
use Rattle.std.specs.Prelude.{◌≡◌, ℕ, ◌==◌, Bool, true, not, List, ◌∷◌, ◌++◌}
use Rattle.std.specs.List.{list_all}

-- a byte that is another one
abbrev pub is_other : ℕ → ℕ → Bool
is_other byte b = not (b == byte)

-- the byte isn't in the text
abbrev pub IsWithout : ℕ → List ℕ → Type 0
IsWithout byte text = list_all (is_other byte) text ≡ true

-- the text is what stands before the first of these bytes, that byte, and what stands after it
pub record IsCutAt (byte : ℕ) (text before after : List ℕ) : Type 0 where
  pub whole : text ≡ before ++ byte ∷ after
  pub first : IsWithout byte before
