-- The lines of a listing as plain values, and the text of each (docs/CODE.md, "Lines of a listing").
use Rattle.std.specs.Prelude.{ℕ, List, [], ◌∷◌, ◌++◌, codes}
use Rattle.std.specs.Fmt.{decimal}
use Rattle.loft_tree.specs.Source as src
use Rattle.loft_tree.specs.Source.{Ident, Named, PlaceName, ModuleHead, Declaration}
use Rattle.loft_show.specs.Canon.{lines_text, pieces_text, place_pieces, head_line, local_line, order_line, outside_line, brace_line, end_line, declaration_lines, space}
use Rattle.loft_show.specs.Places.{bare_name, bare_named, bare_place, bare_head, bare_order, bare_declaration}
use Rattle.loft_listing_line.specs.Instructions.{Instruction, instruction_text, bare_instruction, feed}

-- what a line says
pub data ListingLine : Type 0 where
  Title : ListingLine
  -- a declaration of one line
  Item : (declaration : Declaration) → ListingLine
  Head : (head : ModuleHead) → ListingLine
  Local : (variable : Named) → ListingLine
  Operation : (number : ℕ) (place : PlaceName) (depth : ℕ) (instruction : Instruction) → ListingLine
  -- the line after the operations of a module
  End : ListingLine
  Client : (name : Ident) → ListingLine
  Order : (order : src.Order) → ListingLine
  -- the line after the orders of a client
  Close : ListingLine

-- a blank and a place
abbrev pub place_text : PlaceName → List ℕ
place_text p = pieces_text (place_pieces p space)

-- the text of a line
abbrev pub line_text : ListingLine → List ℕ
line_text Title = codes "loft-listing 1" ++ feed
line_text (Item d) = lines_text (declaration_lines d)
line_text (Head h) = lines_text (head_line h ∷ [])
line_text (Local v) = lines_text (local_line 0 v ∷ [])
line_text (Operation number p depth i) =
    decimal number ++ (place_text p ++ (space ++ (decimal depth ++ (space ++ instruction_text i))))
line_text End = lines_text (end_line 0 ∷ [])
line_text (Client n) = lines_text (outside_line n ∷ [])
line_text (Order x) = lines_text (order_line x ∷ [])
line_text Close = lines_text (brace_line ∷ [])

-- without offsets: each becomes 0
abbrev pub bare_line : ListingLine → ListingLine
bare_line Title = Title
bare_line (Item d) = Item (bare_declaration d)
bare_line (Head h) = Head (bare_head h)
bare_line (Local v) = Local (bare_named v)
bare_line (Operation number p depth i) = Operation number (bare_place p) depth (bare_instruction i)
bare_line End = End
bare_line (Client n) = Client (bare_name n)
bare_line (Order x) = Order (bare_order x)
bare_line Close = Close
