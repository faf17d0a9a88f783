-- The code of a listing without wrong lines keeps its limits.
use Rattle.std.proofs.Common.{◌≡◌, ℕ, ◌+◌, ◌≤◌, suc, List, [], ◌∷◌, ◌++◌, length, map, refl, sym, subst, ap}
use Rattle.std.specs.List.{flat_map}
use Rattle.std.proofs.lemmas.List.{length-map}
use Rattle.loft_tree.specs.Source.{Declaration, Scheduler, Event, Shared, Module, Start, Outside, Source}
use Rattle.loft_tree.specs.Fits.{Each, SourceFits}
use Rattle.loft_scopes.specs.Scopes.{Declared, declared}
use Rattle.loft_scopes.specs.declared.scope.Scope.TheVariants.{Within}
use Rattle.loft_numbers.specs.Numbers.{heads_of, signatures_in}
use Rattle.loft_scopes.specs.Modules.{next_module}
use Rattle.loft_scopes.specs.Faults.{faults, place_of}
use Rattle.loft_names.proofs.HeadsHolding.{heads_kept}
use Rattle.loft_names.proofs.HeadsLists.{each-append, each_left, each_right}
use Rattle.loft_names.proofs.HeadsMeaning.{none_left, none_right}
use Rattle.loft_code.specs.declared.limits.TheConstants.{MAX_OPERATIONS}
use Rattle.loft_code.specs.Fits.{HeadsKeep, LinesFit, RawFits}
use Rattle.loft_listing_line.specs.Rows.{Local, End}
use Rattle.loft_listing_draft.specs.Drafts.{Draft, DraftOperation, DraftFits, HasOperations, ItemHolds, declaration_lines, item_lines, operation_lines, source_of}
use Rattle.loft_listing_line.specs.RowsFit.{ListingLineFits}
use Rattle.loft_listing_names.specs.Wrong.{declaration_misplaced, heads_in, modules_wrong, wrong_offsets}
use Rattle.loft_listing_names.proofs.Threads.{starts_begin, clients_begin}
use Rattle.loft_listing_reader.specs.Numbered.{module_lines, modules_from, numbered, numbered_line}
use Rattle.loft_listing_reader.proofs.KeepsOperations.{operations_keep}

-- ---- as many lists of operations as modules

length_by : (ds : List Declared) (m : ℕ) (x : Declaration) (os : List DraftOperation) (rest : Draft)
    → ((k : ℕ) → length (modules_from ds k rest) ≡ length (signatures_in ds k (source_of rest)))
    → length (module_lines ds m x os ++ modules_from ds (next_module m x) rest) ≡ length (signatures_in ds m (x ∷ source_of rest))
length_by ds m (Scheduler name) os rest same = same m
length_by ds m (Event name scheduler) os rest same = same m
length_by ds m (Shared name scheduler value) os rest same = same m
length_by ds m (Module head locals body) os rest same = ap suc (same (m + 1))
length_by ds m (Start scheduler called arguments name) os rest same = same m
length_by ds m (Outside name orders) os rest same = same m

modules_length : (ds : List Declared) (m : ℕ) (d : Draft) → length (modules_from ds m d) ≡ length (signatures_in ds m (source_of d))
modules_length ds m [] = refl
modules_length ds m (i ∷ is) = length_by ds m i.declaration i.operations is (λ k. modules_length ds k is)

-- ---- operations

declaration_keeps : (ds : List Declared) (m : ℕ) (x : Declaration) (os : List DraftOperation) → HasOperations x os → Each ListingLineFits (declaration_lines x os) → Each LinesFit (module_lines ds m x os)
declaration_keeps ds m (Scheduler name) os has fits = tt
declaration_keeps ds m (Event name scheduler) os has fits = tt
declaration_keeps ds m (Shared name scheduler value) os has fits = tt
declaration_keeps ds m (Module head locals body) os has fits =
    let inside = each_right ListingLineFits (map Local locals) (operation_lines 0 os ++ End ∷ []) fits.1 in
    let lines = each_left ListingLineFits (operation_lines 0 os) (End ∷ []) inside in
    let few : length (map (numbered_line ds (Within m)) os) ≤ MAX_OPERATIONS = subst (λ (n : ℕ). n ≤ MAX_OPERATIONS) (sym (length-map os (numbered_line ds (Within m)))) has.1 in
    (record { each = operations_keep ds (Within m) 0 os lines; few = few }, tt)
declaration_keeps ds m (Start scheduler called arguments name) os has fits = tt
declaration_keeps ds m (Outside name orders) os has fits = tt

modules_keep : (ds : List Declared) (m : ℕ) (d : Draft) → Each ItemHolds d → Each ListingLineFits (flat_map item_lines d) → Each LinesFit (modules_from ds m d)
modules_keep ds m [] hold fits = tt
modules_keep ds m (i ∷ is) hold fits =
    let first = declaration_keeps ds m i.declaration i.operations hold.0 (each_left ListingLineFits (item_lines i) (flat_map item_lines is) fits) in
    let others = modules_keep ds (next_module m i.declaration) is hold.1 (each_right ListingLineFits (item_lines i) (flat_map item_lines is) fits) in
    each-append LinesFit (module_lines ds m i.declaration i.operations) (modules_from ds (next_module m i.declaration) is) first others

-- ---- declarations

none_mapped : {A B : Type 0} (f : A → B) (xs : List A) → map f xs ≡ [] → xs ≡ []
none_mapped f [] none = refl
none_mapped f (x ∷ xs) none = absurd cc

heads_keep : (p : Source) → SourceFits p → faults p ≡ [] → flat_map (declaration_misplaced (declared p) (heads_in p)) p ≡ [] → HeadsKeep (heads_of (declared p) p)
heads_keep p fits none placed =
    let kept = heads_kept p fits none in
    record {
      within = kept.within;
      names = kept.names;
      starts_fit = starts_begin p fits none placed;
      clients_fit = clients_begin p fits none placed;
    }

-- the code of a listing without wrong lines keeps the limits
pub numbered_keeps : (d : Draft) → DraftFits d → wrong_offsets d ≡ [] → RawFits (numbered d)
numbered_keeps d fits right =
    let p : Source = source_of d in
    let ds : List Declared = declared p in
    let none : faults p ≡ [] = none_mapped place_of (faults p) (none_left (map place_of (faults p)) _ right) in
    let others = none_right (map place_of (faults p)) (flat_map (declaration_misplaced ds (heads_in p)) p ++ modules_wrong ds 0 d) right in
    let placed = none_left (flat_map (declaration_misplaced ds (heads_in p)) p) (modules_wrong ds 0 d) others in
    record {
      heads = heads_keep p fits.source none placed;
      all_modules = modules_length ds 0 d;
      each = modules_keep ds 0 d fits.items fits.lines.1;
    }
