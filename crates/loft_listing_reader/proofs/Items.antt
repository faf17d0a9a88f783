-- How the declarations of a draft are gone over one after another.
use Rattle.std.proofs.Common.{◌≡◌, ℕ, zero, suc, ◌+◌, ◌<◌, ◌≤◌, ◌^◌, List, [], ◌∷◌, ◌++◌, length, map, take, drop, get_or, refl, add-one, sym, ap, subst, ◌∙◌, append_assoc, append-nil}
use Rattle.std.specs.Global.{Vec}
use Rattle.std.specs.List.{flat_map}
use Rattle.std.proofs.lemmas.Grind.{flat_map-append}
use Rattle.std.proofs.lemmas.List.{drop_all, length-map, map_more}
use Rattle.std.proofs.Math.Seq.{drop-cons}
use Rattle.loft_tree.specs.declared.program.Item.{Item}
use Rattle.loft_tree.specs.View as view
use Rattle.loft_tree.specs.View.{declaration_of}
use Rattle.loft_tree.specs.Fits.{Each, SourceFits}
use Rattle.loft_tree.specs.Source.{Declaration, Source}
use Rattle.loft_scopes.specs.Modules.{next_module}
use Rattle.loft_scopes.proofs.Numbered.{few_items}
use Rattle.loft_listing_draft.specs.declared.draft.Draft.{Draft as DraftInMemory}
use Rattle.loft_listing_draft.specs.declared.draft.OperationLine.{OperationLine}
use Rattle.loft_listing_draft.specs.Drafts.{Draft, DraftItem, OperationAt, operations_of, source_of}
use Rattle.loft_listing_draft.specs.InMemory.{IsInMemory, held_operation}
use Rattle.loft_listing_reader.specs.AllWrong.{IsDraft}

-- ---- lists

-- with the next of those that are gone over
pub one_more : {A B : Type 0} (f : B → List ℕ) (v : A → B) (xs : List A) (i : ℕ) (x : A) → i < length xs → x ≡ get_or xs i x
    → flat_map f (map v (take i xs)) ++ f (v x) ≡ flat_map f (map v (take (i + 1) xs))
one_more f v xs i x lt is =
    ap (λ ns. flat_map f (map v (take i xs)) ++ ns) (sym (append-nil (f (v x))) ∙ ap (λ y. flat_map f (v y ∷ [])) is)
    ∙ sym (flat_map-append f (map v (take i xs)) (v (get_or xs i x) ∷ []))
    ∙ ap (flat_map f) (sym (map_more v xs i x lt))

pub each_drop : {A : Type 0} (P : A → Type 0) (i : ℕ) (xs : List A) → Each P xs → Each P (drop i xs)
each_drop P zero xs each = each
each_drop P (suc i) [] each = tt
each_drop P (suc i) (x ∷ xs) each = each_drop P i xs each.1

pub split : {A : Type 0} (xs : List A) (i : ℕ) (x : A) → i < length xs → x ≡ get_or xs i x → drop i xs ≡ x ∷ drop (i + 1) xs
split xs i x lt is = drop-cons xs i x lt ∙ rw (← is, add-one) refl

pub each_here : {A : Type 0} (P : A → Type 0) (xs : List A) (i : ℕ) (x : A) → Each P xs → i < length xs → x ≡ get_or xs i x → P x
each_here P xs i x each lt is = (subst (Each P) (split xs i x lt is) (each_drop P i xs each)).0

-- ---- in memory

abbrev pub held_in : List (Vec OperationLine) → List (List OperationAt)
held_in all = map (λ os. map held_operation os.items) all

-- each declaration has its operations
pub same_length : (m : DraftInMemory) → IsDraft m → length m.operations.items ≡ length m.items.items
same_length m (d, fits, memory) =
    sym (length-map m.operations.items (λ (os : Vec OperationLine). map held_operation os.items)) ∙ ap length memory.operations ∙ length-map d operations_of
    ∙ sym (length-map d (λ i. i.declaration)) ∙ sym (ap length memory.items) ∙ length-map m.items.items declaration_of

pub few_held : (m : DraftInMemory) → IsDraft m → length m.items.items < 2 ^ 32
few_held m (d, fits, memory) = few_items m.items.items (subst (λ (p : Source). SourceFits p) (sym memory.items) fits.source)

-- ---- one after another

-- What each item of a draft gives, with the number of the next module, and what they give together.
module _ {A : Type 0} (part : ℕ → DraftItem → List A) (all : ℕ → Draft → List A) (none : (m : ℕ) → all m [] ≡ [])
    (each : (m : ℕ) (i : DraftItem) (is : Draft) → all m (i ∷ is) ≡ part m i ++ all (next_module m i.declaration) is) (d : Draft) where
  -- Items with these declarations and operations are left; those before them gave this.
  pub record Left (declarations : Source) (held : List (List OperationAt)) (number : ℕ) (done : List A) : Type 0 where
    pub rest : Draft
    pub declares : declarations ≡ source_of rest
    pub written : held ≡ map operations_of rest
    pub whole : done ++ all number rest ≡ all 0 d

  pub all_left : (m : DraftInMemory) → IsInMemory m d → Left (view.source_of m.items.items) (held_in m.operations.items) 0 []
  all_left m memory = record { rest = d; declares = memory.items; written = memory.operations; whole = refl }

  -- the next item, and what is left after it
  pub record Next (declaration : Declaration) (operations : List OperationAt) (declarations : Source) (held : List (List OperationAt)) (number : ℕ) (done : List A) : Type 0 where
    pub item : DraftItem
    pub declares : declaration ≡ item.declaration
    pub written : operations ≡ operations_of item
    pub left : Left declarations held (next_module number declaration) (done ++ part number item)

  next_of : (declaration : Declaration) (operations : List OperationAt) (declarations : Source) (held : List (List OperationAt)) (number : ℕ) (done : List A) (rest : Draft)
      → declaration ∷ declarations ≡ source_of rest → operations ∷ held ≡ map operations_of rest → done ++ all number rest ≡ all 0 d
      → Next declaration operations declarations held number done
  next_of declaration operations declarations held number done [] declares written whole = absurd (cc declares)
  next_of declaration operations declarations held number done (i ∷ is) declares written whole =
      let first : declaration ≡ i.declaration = cc declares in
      record {
        item = i;
        declares = first;
        written = cc written;
        left = record {
          rest = is;
          declares = cc declares;
          written = cc written;
          whole = append_assoc done (part number i) (all (next_module number declaration) is)
              ∙ ap (λ x. done ++ (part number i ++ all (next_module number x) is)) first
              ∙ ap (λ ns. done ++ ns) (sym (each number i is)) ∙ whole;
        };
      }

  pub next_held : (items : List Item) (operations : List (Vec OperationLine)) (i : ℕ) (item : Item) (os : Vec OperationLine) (number : ℕ) (done : List A)
      → i < length items → item ≡ get_or items i item → i < length operations → os ≡ get_or operations i os
      → Left (view.source_of (drop i items)) (held_in (drop i operations)) number done
      → Next (declaration_of item) (map held_operation os.items) (view.source_of (drop (i + 1) items)) (held_in (drop (i + 1) operations)) number done
  next_held items operations i item os number done lt is below here left =
      next_of (declaration_of item) (map held_operation os.items) (view.source_of (drop (i + 1) items)) (held_in (drop (i + 1) operations)) number done left.rest
      (ap view.source_of (sym (split items i item lt is)) ∙ left.declares)
      (ap held_in (sym (split operations i os below here)) ∙ left.written)
      left.whole

  done_of : (number : ℕ) (done : List A) (rest : Draft) → [] ≡ source_of rest → done ++ all number rest ≡ all 0 d → done ≡ all 0 d
  done_of number done [] declares whole = sym (append-nil done) ∙ ap (λ ns. done ++ ns) (sym (none number)) ∙ whole
  done_of number done (i ∷ is) declares whole = absurd (cc declares)

  pub all_done : (items : List Item) (i : ℕ) (held : List (List OperationAt)) (number : ℕ) (done : List A) → length items ≤ i
      → Left (view.source_of (drop i items)) held number done → done ≡ all 0 d
  all_done items i held number done long left =
      done_of number done left.rest (ap view.source_of (sym (drop_all i items long)) ∙ left.declares) left.whole
