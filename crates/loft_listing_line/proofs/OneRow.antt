-- What a listing can have stands in one line.
use Rattle.loft_tree.specs.Source.{Declaration, Module}
use Rattle.loft_show.specs.PartReads.{BodyFits}
use Rattle.loft_listing_line.specs.Instructions.{Instruction, Do, Stop}
use Rattle.loft_listing_line.specs.Rows.{ListingLine, Item, Operation}
use Rattle.loft_listing_line.specs.RowsFit.{InstructionFits, IsOneLineInstruction, IsOneLineItem, IsOneLineRow, ListingLineFits}
use Rattle.loft_listing_line.proofs.Bare.{action_line, stop_line}

-- a declaration of one line has no statements
pub no_body : (d : Declaration) → IsOneLineItem d → BodyFits d
no_body (Module head locals body) one = absurd one
no_body d one = tt

one_instruction : (i : Instruction) → InstructionFits i → IsOneLineInstruction i
one_instruction (Do x) fits = action_line x fits
one_instruction (Stop k x) fits = stop_line x fits.1
one_instruction i fits = tt

pub one_row : (l : ListingLine) → ListingLineFits l → IsOneLineRow l
one_row (Item d) fits = fits.0
one_row (Operation number p depth i) fits = one_instruction i fits.3
one_row l fits = tt
