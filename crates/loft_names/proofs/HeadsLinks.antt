-- What has to do with links, as the numbered program has it and as its heads do.
use Rattle.std.proofs.Common.{◌≡◌, ℕ, ◌+◌, List, [], ◌∷◌, ◌++◌, map, refl, sym, ap, ◌∙◌}
use Rattle.std.specs.List.{flat_map}
use Rattle.std.proofs.lemmas.List.{map-append}
use Rattle.loft_tree.specs.declared.heads.Heads.{Heads}
use Rattle.loft_tree.specs.Source.{Order, CreateThere, ControlThere, BroadcastThere, Declaration, Scheduler, Event, Shared, Module, Start, Outside, Source}
use Rattle.loft_tree.specs.NamedFits.{Linked, ACreate, linked_of, linked_in, creates_from, creates_of}
use Rattle.loft_scopes.specs.declared.counts.DeclarationCounts.{DeclarationCounts}
use Rattle.loft_scopes.specs.declared.scope.Scope.TheVariants.{Everywhere}
use Rattle.loft_scopes.specs.Scopes.{Declared, after, none_yet}
use Rattle.loft_numbers.specs.Numbers.{client_orders, creates_in, item_of, items_in, links_of, links_in, heads_of}
use Rattle.loft_names.proofs.HeadsLists.{follows_head}
use Rattle.loft_names.proofs.HeadsNumbers.{HasRest, has_all, has_later}

creates_linked : (ds : List Declared) (client number : ℕ) (xs : List Order) → map linked_of (creates_in client number xs) ≡ creates_from client number (client_orders ds Everywhere xs)
creates_linked ds client number [] = refl
creates_linked ds client number (CreateThere scheduler called arguments ∷ xs) = ap (λ (ls : List Linked). ACreate client number ∷ ls) (creates_linked ds client (number + 1) xs)
creates_linked ds client number (ControlThere control thread scheduler ∷ xs) = creates_linked ds client (number + 1) xs
creates_linked ds client number (BroadcastThere event value ∷ xs) = creates_linked ds client (number + 1) xs

module _ (h : Heads) (ds : List Declared) where
  one_linked : (n : DeclarationCounts) (d : Declaration) (rest : Source) → HasRest h ds n (d ∷ rest) → map linked_of (links_of n d) ≡ linked_in h (item_of n d)
  one_linked n (Scheduler name) rest r = refl
  one_linked n (Event name scheduler) rest r = refl
  one_linked n (Shared name scheduler value) rest r = refl
  one_linked n (Module head locals body) rest r = refl
  one_linked n (Start scheduler called arguments name) rest r = refl
  one_linked n (Outside name orders) rest r = creates_linked ds n.clients 0 orders ∙ ap (creates_of n.clients) (sym (follows_head _ _ _ _ r.clients))

  links_linked : (n : DeclarationCounts) (rest : Source) → HasRest h ds n rest → map linked_of (links_in n rest) ≡ flat_map (linked_in h) (items_in n rest)
  links_linked n [] r = refl
  links_linked n (d ∷ rest) r =
      map-append linked_of (links_of n d) (links_in (after n d) rest)
      ∙ ap (λ (ls : List Linked). ls ++ map linked_of (links_in (after n d) rest)) (one_linked n d rest r)
      ∙ ap (λ (ls : List Linked). linked_in h (item_of n d) ++ ls) (links_linked (after n d) rest (has_later h ds n d rest r))

pub all_linked : (ds : List Declared) (p : Source) → map linked_of (links_in none_yet p) ≡ flat_map (linked_in (heads_of ds p)) (items_in none_yet p)
all_linked ds p = links_linked (heads_of ds p) ds none_yet p (has_all ds p)
