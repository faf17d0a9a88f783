-- The lines of the draft of code are those of its listing, with the offsets at which they stand.
use Rattle.std.proofs.Common.{◌≡◌, ℕ, ◌+◌, List, [], ◌∷◌, ◌++◌, length, Option, Some, None, map, refl, sym, ap, ◌∙◌}
use Rattle.std.specs.Prelude.{slice_get}
use Rattle.std.specs.List.{flat_map}
use Rattle.std.proofs.lemmas.List.{append-nil}
use Rattle.std.proofs.lemmas.Grind.{flat_map-append}
use Rattle.loft_tree.specs.declared.heads.SlotHead.{SlotHead}
use Rattle.loft_tree.specs.declared.heads.Signature.{Signature}
use Rattle.loft_tree.specs.declared.heads.HeadItem.{HeadItem}
use Rattle.loft_tree.specs.declared.heads.HeadItem.TheVariants as item
use Rattle.loft_tree.specs.declared.heads.Heads.{Heads}
use Rattle.loft_tree.specs.Source as src
use Rattle.loft_tree.specs.Fits.{Each}
use Rattle.loft_code.specs.Operations.{Line}
use Rattle.loft_listing_line.specs.Rows as rows
use Rattle.loft_listing_line.specs.Rows.{ListingLine}
use Rattle.loft_listing_draft.specs.Drafts as drafts
use Rattle.loft_listing_draft.specs.Lined.{head_at, line_at, lines_at, name_at, order_at, variable_at}
use Rattle.loft_listing_draft.proofs.LinedLines.{lined_append}
use Rattle.loft_listing.specs.Called.{called, called_head, called_order, called_variable}
use Rattle.loft_listing.specs.Lines.{item_lines, lines_if, operation_line, operation_lines, operations_of}
use Rattle.loft_listing_roundtrip.proofs.Parts.{Part, SchedulerPart, EventPart, SharedPart, ModulePart, StartPart, ClientPart, part_at, part_if, parts_at}
use Rattle.loft_listing_roundtrip.proofs.Saying.{after_head, after_local, after_name, after_order, after_part, called_line, locals_from, orders_from, part_item, part_lines, said}
use Rattle.loft_listing_roundtrip.proofs.Lining.{anywhere}
use Rattle.loft_listing_roundtrip.proofs.OperationsBare.{instruction_bare, place_bare}

-- ---- the lines of code are those of its parts

module _ (h : Heads) (modules : List (List Line)) where
  lines_there : {A : Type 0} (lines : A → List ListingLine) (part : A → Part) → ((x : A) → lines x ≡ part_lines h (part x)) → (o : Option A) → lines_if lines o ≡ flat_map (part_lines h) (part_if part o)
  lines_there lines part same None = refl
  lines_there lines part same (Some x) = same x ∙ sym (append-nil (part_lines h (part x)))

  same_lines : (i : HeadItem) → item_lines h modules i ≡ flat_map (part_lines h) (part_at h modules i)
  same_lines (item.Scheduler s) = lines_there _ SchedulerPart (λ x. refl) (slice_get h.schedulers s.0)
  same_lines (item.Event e) = lines_there _ EventPart (λ x. refl) (slice_get h.events e.0)
  same_lines (item.Shared x) = lines_there _ SharedPart (λ x. refl) (slice_get h.shared x.0)
  same_lines (item.Module m) = lines_there _ (λ x. ModulePart x (operations_of modules m.0)) (λ x. refl) (slice_get h.modules m.0)
  same_lines (item.Start t) = lines_there _ StartPart (λ x. refl) (slice_get h.starts t)
  same_lines (item.Client c) = lines_there _ ClientPart (λ x. refl) (slice_get h.clients c)

  pub items_lines : (is : List HeadItem) → flat_map (item_lines h modules) is ≡ flat_map (part_lines h) (parts_at h modules is)
  items_lines [] = refl
  items_lines (i ∷ is) = (λ k. same_lines i k ++ items_lines is k) ∙ sym (flat_map-append (part_lines h) (part_at h modules i) (parts_at h modules is))

-- ---- the lines of the draft are those of the listing, with the offsets at which they stand

locals_said : (at : ℕ) (vs : List SlotHead) → map rows.Local (locals_from at (map called_variable vs)) ≡ lines_at at (map (λ v. rows.Local (called_variable v)) vs)
unfolding after_local
locals_said at [] = refl
locals_said at (v ∷ vs) = ap (λ ls. rows.Local (variable_at at (called_variable v)) ∷ ls) (locals_said (after_local at (called_variable v)) vs)

orders_said : (at : ℕ) (xs : List src.Order) → map rows.Order (orders_from at xs) ≡ lines_at at (map rows.Order xs)
unfolding after_order
orders_said at [] = refl
orders_said at (x ∷ xs) = ap (λ ls. rows.Order (order_at at x) ∷ ls) (orders_said (after_order at x) xs)

module _ (h : Heads) where
  operations_said : (m : Signature) (number : ℕ) (lines : List Line) → drafts.operation_lines number (map (called_line h m) lines) ++ rows.End ∷ [] ≡ operation_lines h m number lines ++ rows.End ∷ []
  operations_said m number [] = refl
  operations_said m number (l ∷ lines) = ap (λ ls. operation_line h m number l ∷ ls) (operations_said m (number + 1) lines)

  operations_stand : (m : Signature) (number : ℕ) (lines : List Line) → Each (λ l. (n : ℕ) → line_at n l ≡ l) (operation_lines h m number lines ++ rows.End ∷ [])
  operations_stand m number [] = ((λ n. refl), tt)
  operations_stand m number (l ∷ lines) = ((λ n i. rows.Operation number (place_bare h l.place i) l.depth (instruction_bare h m l.operation i)), operations_stand m (number + 1) lines)

  part_said : (at : ℕ) (p : Part) → drafts.item_lines (part_item h at p) ≡ lines_at at (part_lines h p)
  unfolding after_head after_name
  part_said at (SchedulerPart name) = refl
  part_said at (EventPart x) = refl
  part_said at (SharedPart x) = refl
  part_said at (ModulePart m lines) =
      let next : ℕ = after_head h at m in
      let locals : List ListingLine = map (λ v. rows.Local (called_variable v)) m.locals in
      let rest : List ListingLine = operation_lines h m 0 lines ++ rows.End ∷ [] in
      let stand = anywhere (next + length (drafts.lines_text locals)) rest (operations_stand m 0 lines) in
      ap (λ ls. rows.Head (head_at at (called_head h m)) ∷ ls) ((λ i. locals_said next m.locals i ++ (operations_said m 0 lines ∙ sym stand) i) ∙ sym (lined_append next locals rest))
  part_said at (StartPart t) = refl
  part_said at (ClientPart c) =
      let next : ℕ = after_name at c.name in
      let orders : List src.Order = map (called_order h) c.orders in
      ap (λ ls. rows.Client (name_at at (called c.name)) ∷ ls) (ap (λ ls. ls ++ rows.Close ∷ []) (orders_said next orders) ∙ sym (lined_append next (map rows.Order orders) (rows.Close ∷ [])))

  pub all_said : (at : ℕ) (ps : List Part) → flat_map drafts.item_lines (said h at ps) ≡ lines_at at (flat_map (part_lines h) ps)
  unfolding after_part
  all_said at [] = refl
  all_said at (p ∷ ps) = (λ i. part_said at p i ++ all_said (after_part h at p) ps i) ∙ sym (lined_append at (part_lines h p) (flat_map (part_lines h) ps))
