-- The lines that a listing can have (docs/CODE.md, "Lines of a listing").
use Rattle.std.specs.Prelude.{◌≡◌, ℕ, ◌≤◌, List}
use Rattle.loft_lex.specs.Bytes.{max_number}
use Rattle.loft_tree.specs.Source.{Declaration, Scheduler, Event, Shared, Module, Start, Outside, Statement}
use Rattle.loft_tree.specs.Fits.{NameFits, PlaceFits, ExpressionFits, OrderFits, DeclarationFits}
use Rattle.loft_grammar.specs.Limits.{nesting}
use Rattle.loft_grammar.specs.PartsFit.{NamedFits, HeadFits, LineFits}
use Rattle.loft_show.specs.PartReads.{IsOneLine}
use Rattle.loft_listing_line.specs.declared.sort.LineSort.{LineSort}
use Rattle.loft_listing_line.specs.declared.sort.DeedSort.{DeedSort}
use Rattle.loft_listing_line.specs.declared.sort.StatementSort.{StatementSort}
use Rattle.loft_listing_line.specs.declared.sort.StatementSort.TheVariants as sort
use Rattle.loft_listing_line.specs.Instructions.{Instruction, Do, Stop, Branch, Enter, Count, Turn, Jump, End as EndOf}
use Rattle.loft_listing_line.specs.Rows.{ListingLine, Title, Item, Head, Local, Operation, End, Client, Order, Close, line_text}
use Rattle.loft_listing_line.specs.Sorts.{sort_of, sort_of_instruction, sort_of_statement}

-- a declaration that is no module and no client
abbrev pub IsOneLineItem : Declaration → Type 0
IsOneLineItem (Scheduler n) = Unit {0}
IsOneLineItem (Event n scheduler) = Unit {0}
IsOneLineItem (Shared n scheduler value) = Unit {0}
IsOneLineItem (Module head locals body) = ⊥
IsOneLineItem (Start scheduler called arguments n) = Unit {0}
IsOneLineItem (Outside n orders) = ⊥

-- its statement has no bodies, if it has one
abbrev pub IsOneLineInstruction : Instruction → Type 0
IsOneLineInstruction (Do s) = IsOneLine s
IsOneLineInstruction (Stop k s) = IsOneLine s
IsOneLineInstruction i = Unit {0}

-- what it says stands in one line
abbrev pub IsOneLineRow : ListingLine → Type 0
IsOneLineRow (Item d) = IsOneLineItem d
IsOneLineRow (Operation number p depth i) = IsOneLineInstruction i
IsOneLineRow l = Unit {0}

-- it keeps the limits of a source
abbrev pub ItemFits : Declaration → Type 0
ItemFits d = IsOneLineItem d × DeclarationFits d

-- a statement of this sort, which keeps the limits of a line
abbrev pub IsStatementOf : StatementSort → Statement → Type 0
IsStatementOf sort s = (sort_of_statement s ≡ sort) × LineFits s

-- a number that can be written
abbrev pub IsSmall : ℕ → Type 0
IsSmall n = n ≤ max_number

abbrev pub InstructionFits : Instruction → Type 0
InstructionFits (Do s) = IsStatementOf sort.Action s
InstructionFits (Stop k s) = IsSmall k × IsStatementOf sort.Stop s
InstructionFits (Branch t test) = IsSmall t × ExpressionFits nesting test
InstructionFits Enter = Unit {0}
InstructionFits (Count count) = ExpressionFits nesting count
InstructionFits (Turn t) = IsSmall t
InstructionFits (Jump t) = IsSmall t
InstructionFits EndOf = Unit {0}

abbrev pub ListingLineFits : ListingLine → Type 0
ListingLineFits Title = Unit {0}
ListingLineFits (Item d) = ItemFits d
ListingLineFits (Head h) = HeadFits h
ListingLineFits (Local v) = NamedFits v
ListingLineFits (Operation number p depth i) = IsSmall number × PlaceFits p × IsSmall depth × InstructionFits i
ListingLineFits End = Unit {0}
ListingLineFits (Client n) = NameFits n
ListingLineFits (Order x) = OrderFits x
ListingLineFits Close = Unit {0}

-- a fitting line, and what a fitting operation does, of this sort
abbrev pub IsLineOf : LineSort → ListingLine → Type 0
IsLineOf sort l = (sort_of l ≡ sort) × ListingLineFits l

abbrev pub IsInstructionOf : DeedSort → Instruction → Type 0
IsInstructionOf sort i = (sort_of_instruction i ≡ sort) × InstructionFits i

-- The text is this line of a listing.
pub record IsLine (text : List ℕ) (l : ListingLine) : Type 0 where
  pub fits : ListingLineFits l
  pub written : text ≡ line_text l
