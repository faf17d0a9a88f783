-- The links of the declarations that are left.
use Rattle.std.proofs.Common.{◌≡◌, ℕ, ◌+◌, ◌<◌, List, ◌∷◌, ◌++◌, length, get_or, drop, drop-cons, add-one, sym, refl, ap, ◌∙◌, append_assoc}
use Rattle.loft_tree.specs.declared.program.Item.{Item}
use Rattle.loft_tree.specs.View.{declaration_of, source_of}
use Rattle.loft_scopes.specs.declared.counts.DeclarationCounts.{DeclarationCounts}
use Rattle.loft_scopes.specs.Scopes.{after}
use Rattle.loft_tree.specs.declared.named.LinkItem.{LinkItem}
use Rattle.loft_numbers.specs.Numbers.{links_in, links_of}

-- the links of the next declaration of those that are left
pub next_links : (n : DeclarationCounts) (items : List Item) (i : ℕ) (item : Item) (done more all : List LinkItem) → i < length items → item ≡ get_or items i item
    → more ≡ done ++ links_of n (declaration_of item) → done ++ links_in n (source_of (drop i items)) ≡ all
    → more ++ links_in (after n (declaration_of item)) (source_of (drop (i + 1) items)) ≡ all
next_links n items i item done more all lt is grown before =
    let rest : List LinkItem = links_in (after n (declaration_of item)) (source_of (drop (i + 1) items)) in
    let split : drop i items ≡ item ∷ drop (i + 1) items = drop-cons items i item lt ∙ rw (← is, add-one) refl in
    ap (λ ls. ls ++ rest) grown ∙ append_assoc done (links_of n (declaration_of item)) rest ∙ ap (λ xs. done ++ links_in n (source_of xs)) (sym split) ∙ before
