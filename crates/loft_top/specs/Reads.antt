-- What a command reads.
use Rattle.std.specs.Prelude.{ℕ, List, [], ◌∷◌, Option, Some, option_and_then}
use Rattle.std.specs.Option.{option_map}

-- what each of these files has, where that is known of all of them
abbrev pub contents_of : (List ℕ → Option (List ℕ)) → List (List ℕ) → Option (List (List ℕ))
contents_of told [] = Some []
contents_of told (file ∷ files) = option_and_then (λ first. option_map (λ others. first ∷ others) (contents_of told files)) (told file)

-- there is one file, of whose contents P holds
abbrev pub OfOne : (List ℕ → Type 0) → List (List ℕ) → Type 0
OfOne P [] = ⊥
OfOne P (contents ∷ []) = P contents
OfOne P (contents ∷ other ∷ more) = ⊥

-- there are two files, of whose contents P holds
abbrev pub OfTwo : (List ℕ → List ℕ → Type 0) → List (List ℕ) → Type 0
OfTwo P [] = ⊥
OfTwo P (contents ∷ []) = ⊥
OfTwo P (contents ∷ other ∷ []) = P contents other
OfTwo P (contents ∷ other ∷ third ∷ more) = ⊥
