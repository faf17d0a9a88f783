-- The draft of code: what its parts are in a listing, with names in place of numbers. Each name has the offset of its line.
use Rattle.std.specs.Prelude.{ℕ, ◌+◌, List, [], ◌∷◌, length, map}
use Rattle.loft_tree.specs.Source as src
use Rattle.loft_tree.specs.Source.{Named}
use Rattle.loft_tree.specs.declared.heads.Signature.{Signature}
use Rattle.loft_tree.specs.declared.heads.Heads.{Heads}
use Rattle.loft_code.specs.Operations.{Line}
use Rattle.loft_listing_line.specs.Rows.{Client, Head, Item, ListingLine, Local, Order, Title, line_text}
use Rattle.loft_listing_draft.specs.Drafts.{Draft, DraftItem, DraftOperation, lines_text}
use Rattle.loft_listing_draft.specs.Lined.{head_at, item_at, name_at, order_at, variable_at}
use Rattle.loft_listing.specs.Called.{called_place, called_head, called_variable, called, called_order, scheduler_declaration, event_declaration, shared_declaration, start_declaration}
use Rattle.loft_listing.specs.Lines.{called_operation, client_lines, module_lines}
use Rattle.loft_listing_roundtrip.proofs.Parts.{Part, SchedulerPart, EventPart, SharedPart, ModulePart, StartPart, ClientPart}

-- ---- offsets after a line that stands at this offset

unfoldable pub after_local : ℕ → Named → ℕ
after_local at v = at + length (line_text (Local v))

unfoldable pub after_order : ℕ → src.Order → ℕ
after_order at x = at + length (line_text (Order x))

-- the first line of a client
unfoldable pub after_name : ℕ → List ℕ → ℕ
after_name at name = at + length (line_text (Client (called name)))

unfoldable pub after_head : Heads → ℕ → Signature → ℕ
after_head h at m = at + length (line_text (Head (called_head h m)))

-- ---- lines one after the other, the first of which stands at this offset

abbrev pub locals_from : ℕ → List Named → List Named
locals_from at [] = []
locals_from at (v ∷ vs) = variable_at at v ∷ locals_from (after_local at v) vs

abbrev pub orders_from : ℕ → List src.Order → List src.Order
orders_from at [] = []
orders_from at (x ∷ xs) = order_at at x ∷ orders_from (after_order at x) xs

module _ (h : Heads) where
  -- an operation in the module with this signature
  abbrev pub called_line : Signature → Line → DraftOperation
  called_line m l = record { place = called_place h l.place; depth = l.depth; instruction = called_operation h m l.operation }

  -- the lines of a part in the listing
  abbrev pub part_lines : Part → List ListingLine
  part_lines (SchedulerPart name) = Item (scheduler_declaration name) ∷ []
  part_lines (EventPart x) = Item (event_declaration h x) ∷ []
  part_lines (SharedPart x) = Item (shared_declaration h x) ∷ []
  part_lines (ModulePart m lines) = module_lines h m lines
  part_lines (StartPart t) = Item (start_declaration h t) ∷ []
  part_lines (ClientPart c) = client_lines h c

  -- a part that begins at this offset
  abbrev pub part_item : ℕ → Part → DraftItem
  part_item at (SchedulerPart name) = record { declaration = item_at at (scheduler_declaration name); operations = [] }
  part_item at (EventPart x) = record { declaration = item_at at (event_declaration h x); operations = [] }
  part_item at (SharedPart x) = record { declaration = item_at at (shared_declaration h x); operations = [] }
  part_item at (ModulePart x lines) = record {
    declaration = src.Module (head_at at (called_head h x)) (locals_from (after_head h at x) (map called_variable x.locals)) src.Done;
    operations = map (called_line x) lines;
  }
  part_item at (StartPart x) = record { declaration = item_at at (start_declaration h x); operations = [] }
  part_item at (ClientPart x) = record {
    declaration = src.Outside (name_at at (called x.name)) (orders_from (after_name at x.name) (map (called_order h) x.orders));
    operations = [];
  }

  -- the offset after a part that begins at this offset
  unfoldable pub after_part : ℕ → Part → ℕ
  after_part at p = at + length (lines_text (part_lines p))

  -- parts, the first of which begins at this offset
  abbrev pub said : ℕ → List Part → Draft
  said at [] = []
  said at (p ∷ ps) = part_item at p ∷ said (after_part at p) ps

-- the first declaration begins after the first line of a listing
abbrev pub first_offset : ℕ
first_offset = length (line_text Title)
