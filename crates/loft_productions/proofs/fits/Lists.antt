-- Lists that are spelled have as many elements as they may have.
use Rattle.std.proofs.Common.{ℕ, ◌≤◌, List, [], ◌∷◌, length, Option, Some, None, refl, arith}
use Rattle.loft_form.specs.Form.{many, Limits}
use Rattle.loft_tree.specs.Fits.{Each, IfThere}
use Rattle.loft_grammar.specs.Counts.{most}
use Rattle.loft_grammar.specs.Language.{Language}
use Rattle.loft_grammar.specs.Symbols.{Form}
use Rattle.loft_grammar.specs.Expressions.{list_of, further, listed, in_brackets}
use Rattle.loft_grammar.specs.declared.counts.Counted.{Counted}
use Rattle.loft_productions.proofs.fits.Parts.{Gives, Weighs, IsLimited, gives_any, ◌▸◌, gives_made, gives_fresh, gives_maybe, gives_many, gives_both, weighs_none, weighs_then, weighs_made, weights, weighs_so, weighs_many, weighs_maybe, gives_few_fresh}

length_weighs : {A : Type 0} (xs : List A) → length xs ≤ weights (λ _. 1) xs
length_weighs [] = omega arith
length_weighs (x ∷ xs) = omega (arith, length_weighs xs)

-- a list counts as many as its elements
pub many_counts : {lim : Limits Language} {n : ℕ} {w : Counted} {A : Type 0} {f : Form A} → Weighs lim n w f (λ _. 1) → Weighs lim n w (many f) length
many_counts p = weighs_so (weighs_many p) length_weighs

list_fits : {A : Type 0} (P : A → Type 0) (x : Option (A × List A)) → IfThere (λ y. P y.0 × Each P y.1) x → Each P (list_of x)
list_fits P None h = tt
list_fits P (Some x) h = h

pub further_gives : {lim : Limits Language} {n : ℕ} {A : Type 0} {f : Form A} {P : A → Type 0} → Gives lim n f P → Gives lim n (further f) P
further_gives p = gives_made (gives_any ▸ p) (λ x h. h.1)

pub further_counts : {lim : Limits Language} {n : ℕ} {w : Counted} {A : Type 0} {f : Form A} → Weighs lim n w f (λ _. 1) → Weighs lim n w (further f) (λ _. 1)
further_counts p = weighs_made (weighs_then (weighs_none refl) p) (λ x. omega arith)

pub listed_gives : {lim : Limits Language} {n : ℕ} {A : Type 0} {f : Form A} {P : A → Type 0} → Gives lim n f P → Gives lim n (listed f) (Each P)
listed_gives {P = P} p = gives_made (gives_maybe (p ▸ gives_many (further_gives p))) (λ x h. list_fits P x h)

listed_counts : {lim : Limits Language} {n : ℕ} {w : Counted} {A : Type 0} {f : Form A} → Weighs lim n w f (λ _. 1) → Weighs lim n w (listed f) length
listed_counts p = weighs_made (weighs_maybe {q = λ x. length (list_of x)} refl (λ x. omega arith) (weighs_then p (many_counts (further_counts p)))) (λ x. omega arith)

-- a list in brackets, of elements that count one each
pub in_brackets_gives : {lim : Limits Language} {n : ℕ} {w : Counted} {A : Type 0} {f : Form A} {P : A → Type 0} → IsLimited lim w → Gives lim n f P → Weighs lim n w f (λ _. 1) → Gives lim n (in_brackets w f) (λ xs. Each P xs × (length xs ≤ most w))
in_brackets_gives limited p q = gives_made (gives_any ▸ gives_both (gives_fresh (listed_gives p) ▸ gives_any) (gives_few_fresh limited (listed_counts q) refl refl)) (λ x h. (h.1.0.0, h.1.1))
