-- What a draft in memory is as a plain value.
use Rattle.std.specs.Prelude.{◌≡◌, map}
use Rattle.loft_tree.specs.View as view
use Rattle.loft_tree.specs.View.{place_name_of}
use Rattle.loft_tree.specs.Fits.{Each}
use Rattle.loft_show.specs.Places.{bare_place}
use Rattle.loft_listing_line.specs.declared.row.OperationRow.{OperationRow}
use Rattle.loft_listing_line.specs.Instructions.{bare_instruction}
use Rattle.loft_listing_line.specs.RowsFit.{InstructionFits}
use Rattle.loft_listing_line.specs.RowView.{deed_of}
use Rattle.loft_listing_draft.specs.declared.draft.Draft.{Draft as DraftInMemory}
use Rattle.loft_listing_draft.specs.declared.draft.OperationLine.{OperationLine}
use Rattle.loft_listing_draft.specs.Drafts.{Draft, DraftOperation, OperationAt, operations_of, source_of}

-- what the line of an operation says, but for its number
abbrev pub draft_of : OperationRow → DraftOperation
draft_of o = record { place = place_name_of o.place; depth = o.depth; instruction = deed_of o.deed }

-- without offsets: each becomes 0
abbrev pub bare_operation : DraftOperation → DraftOperation
bare_operation o = record { place = bare_place o.place; depth = o.depth; instruction = bare_instruction o.instruction }

-- the operation of a line; offsets in it mean nothing
abbrev pub held_operation : OperationLine → OperationAt
held_operation o = record { at = o.at; operation = bare_operation (draft_of o.operation) }

abbrev pub HeldFits : OperationLine → Type 0
HeldFits o = InstructionFits (deed_of o.operation.deed)

pub record IsInMemory (m : DraftInMemory) (d : Draft) : Type 0 where
  pub items : view.source_of m.items.items ≡ source_of d
  pub operations : map (λ os. map held_operation os.items) m.operations.items ≡ map operations_of d
  pub fit : Each (λ os. Each HeldFits os.items) m.operations.items
