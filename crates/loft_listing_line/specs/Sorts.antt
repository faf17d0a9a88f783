-- The sorts of lines, of what operations do and of statements (docs/CODE.md, "Lines of a listing").
use Rattle.std.specs.Prelude.{ℕ, Bool, false, ◌==◌, ◌||◌}
use Rattle.loft_lex.specs.Bytes.{is_digit}
use Rattle.loft_tree.specs.Source.{Statement, Assign, AssignCreate, Create, PrintText, PrintValue, Cooperate, Generate, Await, Select, Get, Join, ControlThread, Broadcast, Link, Unlink, Run, Halt, If, While, Repeat}
use Rattle.loft_listing_line.specs.declared.sort.LineSort.{LineSort}
use Rattle.loft_listing_line.specs.declared.sort.LineSort.TheVariants as sort
use Rattle.loft_listing_line.specs.declared.sort.DeedSort.{DeedSort}
use Rattle.loft_listing_line.specs.declared.sort.DeedSort.TheVariants as deed
use Rattle.loft_listing_line.specs.declared.sort.StatementSort.{StatementSort}
use Rattle.loft_listing_line.specs.declared.sort.StatementSort.TheVariants.{Action, Stop, Compound}
use Rattle.loft_listing_line.specs.Instructions as instruction
use Rattle.loft_listing_line.specs.Instructions.{Instruction}
use Rattle.loft_listing_line.specs.Rows as rows
use Rattle.loft_listing_line.specs.Rows.{ListingLine}

abbrev pub sort_of : ListingLine → LineSort
sort_of rows.Title = sort.Title
sort_of (rows.Item d) = sort.Item
sort_of (rows.Head h) = sort.Head
sort_of (rows.Local v) = sort.Local
sort_of (rows.Operation number p depth i) = sort.Operation
sort_of rows.End = sort.End
sort_of (rows.Client n) = sort.Client
sort_of (rows.Order x) = sort.Order
sort_of rows.Close = sort.Close

-- a line of this sort can begin with the byte; the first line of a listing and `end` are told by all their bytes
abbrev pub begins_line : LineSort → ℕ → Bool
begins_line sort.Title b = false
begins_line sort.Item b = b == 115 || b == 101
begins_line sort.Head b = b == 109
begins_line sort.Local b = b == 108
begins_line sort.Operation b = is_digit b
begins_line sort.End b = false
begins_line sort.Client b = b == 111
begins_line sort.Order b = b == 32
begins_line sort.Close b = b == 125

abbrev pub sort_of_instruction : Instruction → DeedSort
sort_of_instruction (instruction.Do s) = deed.Do
sort_of_instruction (instruction.Stop k s) = deed.Stop
sort_of_instruction (instruction.Branch t test) = deed.Branch
sort_of_instruction instruction.Enter = deed.Enter
sort_of_instruction (instruction.Count count) = deed.Count
sort_of_instruction (instruction.Turn t) = deed.Turn
sort_of_instruction (instruction.Jump t) = deed.Jump
sort_of_instruction instruction.End = deed.End

-- an operation of this sort begins with the byte; statements are told by their semicolon, and `enter` by all its bytes
abbrev pub begins_deed : DeedSort → ℕ → Bool
begins_deed deed.Do b = false
begins_deed deed.Stop b = false
begins_deed deed.Branch b = b == 98
begins_deed deed.Enter b = false
begins_deed deed.Count b = b == 99
begins_deed deed.Turn b = b == 116
begins_deed deed.Jump b = b == 106
begins_deed deed.End b = b == 101

-- whether a statement goes on at once, is a stop, or has bodies
abbrev pub sort_of_statement : Statement → StatementSort
sort_of_statement (Assign target value) = Action
sort_of_statement (AssignCreate target at creation) = Action
sort_of_statement (Create at creation) = Action
sort_of_statement (PrintText at line value) = Action
sort_of_statement (PrintValue at value) = Action
sort_of_statement (Cooperate at instants) = Stop
sort_of_statement (Generate at event value) = Action
sort_of_statement (Await at event limit) = Stop
sort_of_statement (Select at events limit) = Stop
sort_of_statement (Get at event index target) = Stop
sort_of_statement (Join at thread limit) = Stop
sort_of_statement (ControlThread at control thread scheduler) = Action
sort_of_statement (Broadcast at event value) = Action
sort_of_statement (Link at scheduler) = Stop
sort_of_statement (Unlink at) = Stop
sort_of_statement (Run at called arguments) = Stop
sort_of_statement (Halt at) = Stop
sort_of_statement (If at test first second) = Compound
sort_of_statement (While at test body) = Compound
sort_of_statement (Repeat at count body) = Compound
