-- What operations do, as plain values, and how it is written (docs/CODE.md, "Lines of a listing").
use Rattle.std.specs.Prelude.{ℕ, List, [], ◌∷◌, ◌++◌, codes}
use Rattle.std.specs.Fmt.{decimal}
use Rattle.loft_tree.specs.Source.{Expression, Statement}
use Rattle.loft_show.specs.Canon.{lines_text, pieces_text, expression_pieces, statement_lines, space}
use Rattle.loft_show.specs.Places.{bare_expression, bare_statement}

-- what an operation does, with names as they are written
pub data Instruction : Type 0 where
  Do : (statement : Statement) → Instruction
  Stop : (number : ℕ) (statement : Statement) → Instruction
  Branch : (target : ℕ) (test : Expression) → Instruction
  Enter : Instruction
  Count : (count : Expression) → Instruction
  Turn : (target : ℕ) → Instruction
  Jump : (target : ℕ) → Instruction
  End : Instruction

-- ---- texts, each with its line feed

abbrev pub feed : List ℕ
feed = 10 ∷ []

abbrev pub statement_text : Statement → List ℕ
statement_text s = lines_text (statement_lines s 0)

-- a blank, an expression and a line feed
abbrev pub value_text : Expression → List ℕ
value_text e = pieces_text (expression_pieces e space) ++ feed

abbrev pub instruction_text : Instruction → List ℕ
instruction_text (Do s) = statement_text s
instruction_text (Stop k s) = codes "@" ++ (decimal k ++ (space ++ statement_text s))
instruction_text (Branch t test) = codes "branch " ++ (decimal t ++ value_text test)
instruction_text Enter = codes "enter" ++ feed
instruction_text (Count count) = codes "count" ++ value_text count
instruction_text (Turn t) = codes "turn " ++ (decimal t ++ feed)
instruction_text (Jump t) = codes "jump " ++ (decimal t ++ feed)
instruction_text End = codes "end" ++ feed

-- without offsets: each becomes 0
abbrev pub bare_instruction : Instruction → Instruction
bare_instruction (Do s) = Do (bare_statement s)
bare_instruction (Stop k s) = Stop k (bare_statement s)
bare_instruction (Branch t test) = Branch t (bare_expression test)
bare_instruction Enter = Enter
bare_instruction (Count count) = Count (bare_expression count)
bare_instruction (Turn t) = Turn t
bare_instruction (Jump t) = Jump t
bare_instruction End = End
