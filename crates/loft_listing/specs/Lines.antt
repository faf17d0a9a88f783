-- The lines of the listing of code, one by one (docs/CODE.md, "Listing").
use Rattle.std.specs.Prelude.{ℕ, ◌+◌, List, [], ◌∷◌, ◌++◌, map, Option, Some, None, slice_get, unwrap_or}
use Rattle.std.specs.List.{flat_map}
use Rattle.loft_tree.specs.declared.heads.Signature.{Signature}
use Rattle.loft_tree.specs.declared.heads.Client.{Client}
use Rattle.loft_tree.specs.declared.heads.HeadItem.{HeadItem}
use Rattle.loft_tree.specs.declared.heads.HeadItem.TheVariants as item
use Rattle.loft_tree.specs.declared.heads.Heads.{Heads}
use Rattle.loft_code.specs.Operations.{Operation, Do, Hold, Call, Branch, Enter, Count, Turn, Jump, End, Line, Automata}
use Rattle.loft_listing_line.specs.Instructions as instruction
use Rattle.loft_listing_line.specs.Instructions.{Instruction}
use Rattle.loft_listing_line.specs.Rows as rows
use Rattle.loft_listing_line.specs.Rows.{ListingLine}
use Rattle.loft_listing.specs.Called.{called, called_expression, called_action, called_pause, called_run, called_order, called_place, called_head, called_variable, scheduler_declaration, event_declaration, shared_declaration, start_declaration}

-- ---- operations

module _ (h : Heads) (m : Signature) where
  abbrev pub called_operation : Operation → Instruction
  called_operation (Do action) = instruction.Do (called_action h m action)
  called_operation (Hold k pause) = instruction.Stop k (called_pause h m pause)
  called_operation (Call k other arguments) = instruction.Stop k (called_run h m other arguments)
  called_operation (Branch t test) = instruction.Branch t (called_expression h m test)
  called_operation Enter = instruction.Enter
  called_operation (Count count) = instruction.Count (called_expression h m count)
  called_operation (Turn t) = instruction.Turn t
  called_operation (Jump t) = instruction.Jump t
  called_operation End = instruction.End

  abbrev pub operation_line : ℕ → Line → ListingLine
  operation_line number l = rows.Operation number (called_place h l.place) l.depth (called_operation l.operation)

  -- operations, numbered from this number on
  abbrev pub operation_lines : ℕ → List Line → List ListingLine
  operation_lines number [] = []
  operation_lines number (l ∷ ls) = operation_line number l ∷ operation_lines (number + 1) ls

-- ---- declarations

-- the head, the local variables, the operations and `end`
abbrev pub module_lines : Heads → Signature → List Line → List ListingLine
module_lines h m ls =
    rows.Head (called_head h m) ∷ (map (λ v. rows.Local (called_variable v)) m.locals ++ (operation_lines h m 0 ls ++ rows.End ∷ []))

-- the orders of a client stand between two lines
abbrev pub client_lines : Heads → Client → List ListingLine
client_lines h c = rows.Client (called c.name) ∷ (map rows.Order (map (called_order h) c.orders) ++ rows.Close ∷ [])

-- nothing is written for a number that isn't declared
abbrev pub lines_if : {A : Type 0} → (A → List ListingLine) → Option A → List ListingLine
lines_if lines None = []
lines_if lines (Some x) = lines x

-- the operations of the module with this number
abbrev pub operations_of : List (List Line) → ℕ → List Line
operations_of modules number = unwrap_or (slice_get modules number) []

-- a declaration by its sort and its number
module _ (h : Heads) (modules : List (List Line)) where
  abbrev pub item_lines : HeadItem → List ListingLine
  item_lines (item.Scheduler s) = lines_if (λ x. rows.Item (scheduler_declaration x) ∷ []) (slice_get h.schedulers s.0)
  item_lines (item.Event e) = lines_if (λ x. rows.Item (event_declaration h x) ∷ []) (slice_get h.events e.0)
  item_lines (item.Shared x) = lines_if (λ x. rows.Item (shared_declaration h x) ∷ []) (slice_get h.shared x.0)
  item_lines (item.Module m) = lines_if (λ x. module_lines h x (operations_of modules m.0)) (slice_get h.modules m.0)
  item_lines (item.Start t) = lines_if (λ x. rows.Item (start_declaration h x) ∷ []) (slice_get h.starts t)
  item_lines (item.Client c) = lines_if (client_lines h) (slice_get h.clients c)

-- a first line, and the declarations in the order of the text
abbrev pub listing_lines : Automata → List ListingLine
listing_lines c = rows.Title ∷ flat_map (item_lines c.heads c.modules) c.heads.items
