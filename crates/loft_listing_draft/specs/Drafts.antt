-- Listings with names as they are written (docs/CODE.md, "What a listing says").
use Rattle.std.specs.Prelude.{◌≡◌, ℕ, ◌+◌, ◌≤◌, List, [], ◌∷◌, ◌++◌, length, map}
use Rattle.std.specs.List.{flat_map}
use Rattle.loft_tree.specs.Source.{PlaceName, Named, ModuleHead, Declaration, Scheduler, Event, Shared, Module, Start, Outside, Source, Done}
use Rattle.loft_tree.specs.Fits.{Each, SourceFits}
use Rattle.loft_code.specs.declared.limits.TheConstants.{MAX_OPERATIONS}
use Rattle.loft_listing_line.specs.Instructions.{Instruction}
use Rattle.loft_listing_line.specs.Rows.{ListingLine, Title, Item, Head, Local, Operation, End, Client, Order, Close, line_text}
use Rattle.loft_listing_line.specs.RowsFit.{ListingLineFits}
use Rattle.loft_listing_draft.specs.Lined.{lines_at}

-- an operation, with names as they are written
pub record DraftOperation : Type 0 where
  pub place : PlaceName
  pub depth : ℕ
  pub instruction : Instruction

-- a declaration, where a module has no statements, and the operations of a module
pub record DraftItem : Type 0 where
  pub declaration : Declaration
  pub operations : List DraftOperation

-- what a listing says, in the order of its lines
abbrev pub Draft : Type 0
Draft = List DraftItem

-- what it declares
abbrev pub source_of : Draft → Source
source_of d = map (λ i. i.declaration) d

-- ---- lines

abbrev pub operation_line : ℕ → DraftOperation → ListingLine
operation_line number o = Operation number o.place o.depth o.instruction

-- operations, numbered from this number on
abbrev pub operation_lines : ℕ → List DraftOperation → List ListingLine
operation_lines number [] = []
operation_lines number (o ∷ os) = operation_line number o ∷ operation_lines (number + 1) os

abbrev pub declaration_lines : Declaration → List DraftOperation → List ListingLine
declaration_lines (Scheduler name) os = Item (Scheduler name) ∷ []
declaration_lines (Event name scheduler) os = Item (Event name scheduler) ∷ []
declaration_lines (Shared name scheduler value) os = Item (Shared name scheduler value) ∷ []
declaration_lines (Module head locals body) os = Head head ∷ (map Local locals ++ (operation_lines 0 os ++ End ∷ []))
declaration_lines (Start scheduler called arguments name) os = Item (Start scheduler called arguments name) ∷ []
declaration_lines (Outside name orders) os = Client name ∷ (map Order orders ++ Close ∷ [])

abbrev pub item_lines : DraftItem → List ListingLine
item_lines i = declaration_lines i.declaration i.operations

-- a first line, and the lines of each declaration
abbrev pub draft_lines : Draft → List ListingLine
draft_lines d = Title ∷ flat_map item_lines d

-- ---- limits

-- no module has statements, and nothing but a module has operations
abbrev pub HasOperations : Declaration → List DraftOperation → Type 0
HasOperations (Scheduler name) os = os ≡ []
HasOperations (Event name scheduler) os = os ≡ []
HasOperations (Shared name scheduler value) os = os ≡ []
HasOperations (Module head locals body) os = (body ≡ Done) × (length os ≤ MAX_OPERATIONS)
HasOperations (Start scheduler called arguments name) os = os ≡ []
HasOperations (Outside name orders) os = os ≡ []

abbrev pub ItemHolds : DraftItem → Type 0
ItemHolds i = HasOperations i.declaration i.operations

-- ---- texts and offsets

abbrev pub lines_text : List ListingLine → List ℕ
lines_text ls = flat_map line_text ls

-- Names outside operations have the offsets of their lines.
pub record DraftFits (d : Draft) : Type 0 where
  pub source : SourceFits (source_of d)
  pub items : Each ItemHolds d
  pub lines : Each ListingLineFits (draft_lines d)
  pub lined : lines_at 0 (draft_lines d) ≡ draft_lines d

-- the text says this, line by line
pub record IsListing (text : List ℕ) (d : Draft) : Type 0 where
  pub fits : DraftFits d
  pub written : text ≡ lines_text (draft_lines d)

-- ---- operations where they stand

-- an operation whose line stands at this offset
pub record OperationAt : Type 0 where
  pub at : ℕ
  pub operation : DraftOperation

-- operations, numbered from this number on, the first of which stands at this offset
abbrev pub operations_at : ℕ → ℕ → List DraftOperation → List OperationAt
operations_at at number [] = []
operations_at at number (o ∷ os) =
    record { at = at; operation = o } ∷ operations_at (at + length (line_text (operation_line number o))) (number + 1) os

-- the offset after the head of a module and its local variables; its name has that of its first line
abbrev pub after_locals : ModuleHead → List Named → ℕ
after_locals head locals = head.name.at + length (lines_text (Head head ∷ map Local locals))

-- the operations of a declaration
abbrev pub operations_in : Declaration → List DraftOperation → List OperationAt
operations_in (Scheduler name) os = []
operations_in (Event name scheduler) os = []
operations_in (Shared name scheduler value) os = []
operations_in (Module head locals body) os = operations_at (after_locals head locals) 0 os
operations_in (Start scheduler called arguments name) os = []
operations_in (Outside name orders) os = []

abbrev pub operations_of : DraftItem → List OperationAt
operations_of i = operations_in i.declaration i.operations
