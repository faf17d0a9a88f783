-- Three words that are no options are one too many.
use Rattle.std.proofs.Common.{◌≡◌, ℕ, ◌≤◌, arith, length, List, [], ◌∷◌, refl, ◌∙◌, ap, Option, None}
use Rattle.std.specs.Prelude.{map, option_and_then}
use Rattle.std.specs.Option.{option_map}
use Rattle.loft_arguments.specs.Arguments.{Plain}
use Rattle.loft_arguments.specs.Parts.{Parts, with_arguments, next_word}

abbrev with_word : Parts → List (List ℕ) → List ℕ → List (List ℕ) → Option Parts
with_word p plain word words = option_and_then (λ (h : Parts). with_arguments h (map Plain words)) (option_map (λ v. record p { plain = v }) (next_word plain word))

-- after two words a third one is too many
third : (p : Parts) (words : List (List ℕ)) → 2 ≤ length p.plain → 1 ≤ length words → with_arguments p (map Plain words) ≡ None
third p [] has many = absurd (omega arith)
third p (word ∷ words) has many = go p.plain refl has
  where
    go : (plain : List (List ℕ)) → p.plain ≡ plain → 2 ≤ length plain → with_arguments p (map Plain (word ∷ words)) ≡ None
    go [] is has = absurd (omega arith)
    go (a ∷ []) is has = absurd (omega arith)
    go (a ∷ b ∷ more) is has = ap (λ (l : List (List ℕ)). with_word p l word words) is

second : (p : Parts) (words : List (List ℕ)) → 1 ≤ length p.plain → 2 ≤ length words → with_arguments p (map Plain words) ≡ None
second p [] has many = absurd (omega arith)
second p (word ∷ words) has many = go p.plain refl has
  where
    go : (plain : List (List ℕ)) → p.plain ≡ plain → 1 ≤ length plain → with_arguments p (map Plain (word ∷ words)) ≡ None
    go [] is has = absurd (omega arith)
    go (a ∷ []) is has = ap (λ (l : List (List ℕ)). with_word p l word words) is ∙ third (record p { plain = a ∷ word ∷ [] }) words (omega arith) (omega arith)
    go (a ∷ b ∷ more) is has = ap (λ (l : List (List ℕ)). with_word p l word words) is

-- three words are one too many
pub three_words : (p : Parts) (words : List (List ℕ)) → 3 ≤ length words → with_arguments p (map Plain words) ≡ None
three_words p [] many = absurd (omega arith)
three_words p (word ∷ words) many = go p.plain refl
  where
    go : (plain : List (List ℕ)) → p.plain ≡ plain → with_arguments p (map Plain (word ∷ words)) ≡ None
    go [] is = ap (λ (l : List (List ℕ)). with_word p l word words) is ∙ second (record p { plain = word ∷ [] }) words (omega arith) (omega arith)
    go (a ∷ []) is = ap (λ (l : List (List ℕ)). with_word p l word words) is ∙ third (record p { plain = a ∷ word ∷ [] }) words (omega arith) (omega arith)
    go (a ∷ b ∷ more) is = ap (λ (l : List (List ℕ)). with_word p l word words) is
