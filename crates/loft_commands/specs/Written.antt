-- What a sink is given.
use Rattle.std.specs.Prelude.{◌≡◌, ℕ, ◌<◌, ◌⊎◌, List, [], ◌∷◌, ◌++◌, length, Option, Some}

-- what a sink tells grew by a text of which P holds
abbrev pub AppendsSome : Option (List ℕ) → Option (List ℕ) → (List ℕ → Type 0) → Type 0
AppendsSome old new P = (written : List ℕ) → old ≡ Some written → (text : List ℕ) × (new ≡ Some (written ++ text)) × P text

-- the text is this line
abbrev pub IsLineOf : List ℕ → List ℕ → Type 0
IsLineOf line text = text ≡ line ++ 10 ∷ []

-- the text is empty, or a prefix of one of which P holds
abbrev pub IsPrefix : (List ℕ → Type 0) → List ℕ → Type 0
IsPrefix P text = (text ≡ []) ⊎ ((rest : List ℕ) × P (text ++ rest))

-- a text of which P holds has more bytes than there is room for
abbrev pub HasNoRoom : ℕ → (List ℕ → Type 0) → Type 0
HasNoRoom room P = (text : List ℕ) × P text × (room < length text)
