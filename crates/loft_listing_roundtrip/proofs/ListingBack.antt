-- A draft whose names are right is written as it was read.
use Rattle.std.proofs.Common.{◌≡◌, ℕ, List, [], ◌∷◌, ◌++◌, Option, Some, map, refl, sym, subst, ap, ◌∙◌}
use Rattle.std.specs.Prelude.{slice_get, unwrap_or}
use Rattle.std.specs.List.{flat_map}
use Rattle.std.proofs.lemmas.List.{map-append}
use Rattle.loft_tree.specs.declared.heads.Signature.{Signature}
use Rattle.loft_tree.specs.declared.heads.Heads.{Heads}
use Rattle.loft_tree.specs.Source as src
use Rattle.loft_tree.specs.Source.{Declaration, Event, Module, Named, Outside, Scheduler, Shared, Start}
use Rattle.loft_tree.specs.Fits.{DeclarationFits, Each}
use Rattle.loft_show.specs.Places.{bare_name, bare_order}
use Rattle.loft_scopes.specs.Scopes.{Declared, after}
use Rattle.loft_scopes.specs.declared.scope.Scope.TheVariants.{Everywhere, Within}
use Rattle.loft_scopes.specs.declared.counts.DeclarationCounts.{DeclarationCounts}
use Rattle.loft_names.specs.HeadOf.{HasHead}
use Rattle.loft_scopes.specs.Modules.{next_module}
use Rattle.loft_names.specs.NamesHold.{DeclarationAgrees, UsesAgree}
use Rattle.loft_numbers.specs.Numbers.{clients_in, events_in, item_of, items_in, schedulers_in, shared_in, signature_of, signatures_in, slots_of, starts_in}
use Rattle.loft_names.proofs.HeadsLists.{Follows, each_left, each_right, follows_head, follows_tail}
use Rattle.loft_names.proofs.HeadsMeaning.{none_left, none_right}
use Rattle.loft_code.specs.Operations.{Line}
use Rattle.loft_listing_line.specs.Rows as rows
use Rattle.loft_listing_line.specs.Rows.{ListingLine, bare_line}
use Rattle.loft_listing_draft.specs.Drafts as drafts
use Rattle.loft_listing_draft.specs.Drafts.{Draft, DraftItem, DraftOperation, source_of}
use Rattle.loft_listing_line.specs.RowsFit.{ListingLineFits}
use Rattle.loft_listing.specs.Called.{called, called_variable, event_declaration, scheduler_declaration, shared_declaration, start_declaration}
use Rattle.loft_listing.specs.Lines.{client_lines, item_lines, lines_if, module_lines, operation_lines, operations_of}
use Rattle.loft_listing_names.specs.Wrong.{modules_wrong, operations_wrong}
use Rattle.loft_listing_reader.specs.Numbered.{modules_from, numbered_line}
use Rattle.loft_listing_roundtrip.proofs.NamesBack.{module_back, scheduler_back}
use Rattle.loft_listing_roundtrip.proofs.OperationsBack.{operations_read}
use Rattle.loft_listing_roundtrip.proofs.DeclarationsBack.{arguments_back, head_back, name_back, orders_back}

-- ---- lines

locals_lines : (vs : List Named) (rest others : List ListingLine) → rest ≡ map bare_line others → map (λ v. rows.Local (called_variable v)) (slots_of vs) ++ rest ≡ map bare_line (map rows.Local vs ++ others)
locals_lines [] rest others same = same
locals_lines (v ∷ vs) rest others same = ap (λ ls. rows.Local (called_variable (record { kind = v.kind; name = v.name.text })) ∷ ls) (locals_lines vs rest others same)

orders_lines : (xs : List src.Order) → map rows.Order (map bare_order xs) ++ rows.Close ∷ [] ≡ map bare_line (map rows.Order xs ++ rows.Close ∷ [])
orders_lines [] = refl
orders_lines (x ∷ xs) = ap (λ ls. rows.Order (bare_order x) ∷ ls) (orders_lines xs)

-- what is declared, and the operations of each module, begin after so many with those of this draft
pub record AreLeft (h : Heads) (modules : List (List Line)) (ds : List Declared) (k : DeclarationCounts) (d : Draft) : Type 0 where
  pub schedulers : Follows h.schedulers k.schedulers (schedulers_in (source_of d))
  pub events : Follows h.events k.events (events_in ds (source_of d))
  pub shared : Follows h.shared k.shared (shared_in ds (source_of d))
  pub heads : Follows h.modules k.modules (signatures_in ds k.modules (source_of d))
  pub starts : Follows h.starts k.starts (starts_in ds (source_of d))
  pub clients : Follows h.clients k.clients (clients_in ds (source_of d))
  pub lines : Follows modules k.modules (modules_from ds k.modules d)

same_next : (k : DeclarationCounts) (x : Declaration) → next_module k.modules x ≡ (after k x).modules
same_next k (Scheduler name) = refl
same_next k (Event name scheduler) = refl
same_next k (Shared name scheduler value) = refl
same_next k (Module head locals body) = refl
same_next k (Start scheduler called arguments name) = refl
same_next k (Outside name orders) = refl

abbrev item : Declaration → List DraftOperation → DraftItem
item x os = record { declaration = x; operations = os }

module _ (h : Heads) (modules : List (List Line)) (ds : List Declared) where
  are_left : (k : DeclarationCounts) (x : Declaration) (os : List DraftOperation) (is : Draft) → AreLeft h modules ds k (item x os ∷ is) → AreLeft h modules ds (after k x) is
  are_left k (Scheduler name) os is l =
      record { schedulers = follows_tail _ _ _ _ l.schedulers; events = l.events; shared = l.shared; heads = l.heads; starts = l.starts; clients = l.clients; lines = l.lines }
  are_left k (Event name scheduler) os is l =
      record { schedulers = l.schedulers; events = follows_tail _ _ _ _ l.events; shared = l.shared; heads = l.heads; starts = l.starts; clients = l.clients; lines = l.lines }
  are_left k (Shared name scheduler value) os is l =
      record { schedulers = l.schedulers; events = l.events; shared = follows_tail _ _ _ _ l.shared; heads = l.heads; starts = l.starts; clients = l.clients; lines = l.lines }
  are_left k (Module head locals body) os is l =
      record { schedulers = l.schedulers; events = l.events; shared = l.shared; heads = follows_tail _ _ _ _ l.heads; starts = l.starts; clients = l.clients; lines = follows_tail _ _ _ _ l.lines }
  are_left k (Start scheduler called arguments name) os is l =
      record { schedulers = l.schedulers; events = l.events; shared = l.shared; heads = l.heads; starts = follows_tail _ _ _ _ l.starts; clients = l.clients; lines = l.lines }
  are_left k (Outside name orders) os is l =
      record { schedulers = l.schedulers; events = l.events; shared = l.shared; heads = l.heads; starts = l.starts; clients = follows_tail _ _ _ _ l.clients; lines = l.lines }

  module _ (each : Each (HasHead h) ds) where
    module_read : (k : DeclarationCounts) (head : src.ModuleHead) (locals : List Named) (body : src.Statements) (os : List DraftOperation) (is : Draft) → AreLeft h modules ds k (item (Module head locals body) os ∷ is)
        → DeclarationAgrees ds k.modules (Module head locals body) → DeclarationFits (Module head locals body) → Each ListingLineFits (drafts.declaration_lines (Module head locals body) os)
        → operations_wrong ds (Within k.modules) (drafts.operations_in (Module head locals body) os) ≡ []
        → item_lines h modules (item_of k (Module head locals body)) ≡ map bare_line (drafts.declaration_lines (Module head locals body) os)
    module_read k head locals body os is l agrees fits fit none =
        let signature : Signature = signature_of ds k.modules head locals in
        let there : slice_get h.modules k.modules ≡ Some signature = follows_head _ _ _ _ l.heads in
        let lines : List Line = map (numbered_line ds (Within k.modules)) os in
        let has : slice_get modules k.modules ≡ Some lines = follows_head _ _ _ _ l.lines in
        let inside = each_right ListingLineFits (map rows.Local locals) (drafts.operation_lines 0 os ++ rows.End ∷ []) fit.1 in
        let operations = operations_read ds h each k.modules signature there 0 (drafts.after_locals head locals) os (each_left ListingLineFits (drafts.operation_lines 0 os) (rows.End ∷ []) inside) none in
        let rest : operation_lines h signature 0 lines ++ rows.End ∷ [] ≡ map bare_line (drafts.operation_lines 0 os ++ rows.End ∷ []) =
        ap (λ ls. ls ++ rows.End ∷ []) operations ∙ sym (map-append bare_line (drafts.operation_lines 0 os) (rows.End ∷ [])) in
        ap (lines_if (λ x. module_lines h x (operations_of modules k.modules))) there
        ∙ ap (λ (o : Option (List Line)). module_lines h signature (unwrap_or o [])) has
        ∙ (λ i. rows.Head (head_back ds h each k.modules head locals agrees.0 agrees.1 fits.end i)
        ∷ locals_lines locals (operation_lines h signature 0 lines ++ rows.End ∷ []) (drafts.operation_lines 0 os ++ rows.End ∷ []) rest i)

    item_read : (k : DeclarationCounts) (x : Declaration) (os : List DraftOperation) (is : Draft) → AreLeft h modules ds k (item x os ∷ is) → DeclarationAgrees ds k.modules x → DeclarationFits x
        → Each ListingLineFits (drafts.declaration_lines x os) → operations_wrong ds (Within k.modules) (drafts.operations_in x os) ≡ []
        → item_lines h modules (item_of k x) ≡ map bare_line (drafts.declaration_lines x os)
    item_read k (Scheduler name) os is l agrees fits fit none = ap (lines_if (λ x. rows.Item (scheduler_declaration x) ∷ [])) (follows_head _ _ _ _ l.schedulers)
    item_read k (Event name scheduler) os is l agrees fits fit none =
        ap (lines_if (λ x. rows.Item (event_declaration h x) ∷ [])) (follows_head _ _ _ _ l.events)
        ∙ (λ i. rows.Item (Event (bare_name name) (scheduler_back ds h each Everywhere scheduler agrees i)) ∷ [])
    item_read k (Shared name scheduler value) os is l agrees fits fit none =
        ap (lines_if (λ x. rows.Item (shared_declaration h x) ∷ [])) (follows_head _ _ _ _ l.shared)
        ∙ (λ i. rows.Item (Shared (bare_name name) (scheduler_back ds h each Everywhere scheduler agrees i) value) ∷ [])
    item_read k (Module head locals body) os is l agrees fits fit none = module_read k head locals body os is l agrees fits fit none
    item_read k (Start scheduler called arguments name) os is l agrees fits fit none =
        ap (lines_if (λ x. rows.Item (start_declaration h x) ∷ [])) (follows_head _ _ _ _ l.starts)
        ∙ (λ i. rows.Item (Start (scheduler_back ds h each Everywhere scheduler agrees.0 i) (module_back ds h each Everywhere agrees.1 called agrees.2 i) (arguments_back ds h each agrees.1 arguments agrees.3 i) (name_back name i)) ∷ [])
    item_read k (Outside name orders) os is l agrees fits fit none =
        ap (lines_if (client_lines h)) (follows_head _ _ _ _ l.clients)
        ∙ (λ i. rows.Client (bare_name name) ∷ (map rows.Order (orders_back ds h each orders agrees i) ++ rows.Close ∷ []))
        ∙ ap (λ ls. rows.Client (bare_name name) ∷ ls) (orders_lines orders)

    -- the lines of the code of a draft are those of the draft, without offsets
    pub lines_read : (k : DeclarationCounts) (d : Draft) → AreLeft h modules ds k d → UsesAgree ds k.modules (source_of d) → Each DeclarationFits (source_of d) → Each ListingLineFits (flat_map drafts.item_lines d)
        → modules_wrong ds k.modules d ≡ [] → flat_map (item_lines h modules) (items_in k (source_of d)) ≡ map bare_line (flat_map drafts.item_lines d)
    lines_read k [] l agree fits fit none = refl
    lines_read k (i ∷ is) l agree fits fit none =
        let x : Declaration = i.declaration in
        let wrong = operations_wrong ds (Within k.modules) (drafts.operations_of i) in
        let first = item_read k x i.operations is l agree.0 fits.0 (each_left ListingLineFits (drafts.item_lines i) (flat_map drafts.item_lines is) fit) (none_left wrong _ none) in
        let rest = lines_read (after k x) is (are_left k x i.operations is l) (subst (λ (n : ℕ). UsesAgree ds n (source_of is)) (same_next k x) agree.1) fits.1
        (each_right ListingLineFits (drafts.item_lines i) (flat_map drafts.item_lines is) fit)
        (subst (λ (n : ℕ). modules_wrong ds n is ≡ []) (same_next k x) (none_right wrong (modules_wrong ds (next_module k.modules x) is) none)) in
        (λ j. first j ++ rest j) ∙ sym (map-append bare_line (drafts.item_lines i) (flat_map drafts.item_lines is))
