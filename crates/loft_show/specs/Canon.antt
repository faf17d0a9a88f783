-- The canonical text of a program (docs/LANGUAGE.md, "Canonical text").
use Rattle.std.specs.Prelude.{ℕ, ◌+◌, ℤ, pos, negsuc, Bool, true, false, List, [], ◌∷◌, ◌++◌, Option, Some, None, codes, replicate}
use Rattle.std.specs.Fmt.{decimal}
use Rattle.loft_lex.specs.Word.{spelling as word_spelling}
use Rattle.loft_lex.specs.Sign.{spelling as sign_spelling}
use Rattle.loft_lex.specs.declared.word.Word.TheVariants as w
use Rattle.loft_lex.specs.declared.sign.Sign.{Sign}
use Rattle.loft_lex.specs.declared.sign.Sign.TheVariants as s
use Rattle.loft_lex.specs.declared.word.Word.{Word}
use Rattle.loft_lex.specs.Symbol.{What, Named as NamedWhat, Keyword, Numeral, Quoted, Mark, Unreadable}
use Rattle.loft_tree.specs.declared.kinds.Kind.{Kind}
use Rattle.loft_tree.specs.declared.kinds.Kind.TheVariants as k
use Rattle.loft_tree.specs.declared.kinds.Builtin.{Builtin}
use Rattle.loft_tree.specs.declared.kinds.Builtin.TheVariants as b
use Rattle.loft_tree.specs.declared.kinds.UnaryOperator.{UnaryOperator}
use Rattle.loft_tree.specs.declared.kinds.UnaryOperator.TheVariants as u
use Rattle.loft_tree.specs.declared.kinds.BinaryOperator.{BinaryOperator}
use Rattle.loft_tree.specs.declared.kinds.BinaryOperator.TheVariants as o
use Rattle.loft_tree.specs.declared.kinds.Control.{Control}
use Rattle.loft_tree.specs.declared.kinds.Control.TheVariants as c
use Rattle.loft_tree.specs.Levels.{left_bracketed, right_bracketed, sign_bracketed}
use Rattle.loft_tree.specs.Source.{Ident, EventName, Expression, Number, Variable, Special, Unary, Binary, Creation, Statement, Assign, AssignCreate, Create, PrintText, PrintValue, Cooperate, Generate, Await, Select, Get, Join, ControlThread, Broadcast, Link, Unlink, Run, Halt, If, While, Repeat, Statements, Done, Then, Named, PlaceName, InScheduler, Unlinked, ModuleHead, Argument, ANumber, AName, Order, CreateThere, ControlThere, BroadcastThere, Declaration, Scheduler, Event, Shared, Module, Start, Outside, Source}

-- ---- pieces and lines

-- a word, sign, name, number or text, and the blanks before it
pub record Piece : Type 0 where
  pub gap : List ℕ
  pub what : What

-- pieces on a line of their own, with so many blanks at its front
pub record Line : Type 0 where
  pub indent : ℕ
  pub pieces : List Piece

-- how each is written
abbrev pub number_text : ℤ → List ℕ
number_text (pos n) = decimal n
number_text (negsuc n) = codes "-" ++ decimal (n + 1)

abbrev pub spelled : What → List ℕ
spelled (NamedWhat bytes) = bytes
spelled (Keyword word) = word_spelling word
spelled (Numeral value) = number_text value
spelled (Quoted bytes) = codes "\"" ++ (bytes ++ codes "\"")
spelled (Mark sign) = sign_spelling sign
spelled Unreadable = []

abbrev pub pieces_text : List Piece → List ℕ
pieces_text [] = []
pieces_text (p ∷ ps) = p.gap ++ (spelled p.what ++ pieces_text ps)

-- each line ends with a line feed
abbrev pub lines_text : List Line → List ℕ
lines_text [] = []
lines_text (l ∷ ls) = replicate l.indent 32 ++ (pieces_text l.pieces ++ 10 ∷ lines_text ls)

abbrev pub line : ℕ → List Piece → Line
line indent pieces = record { indent = indent; pieces = pieces }

abbrev pub piece : List ℕ → What → Piece
piece gap what = record { gap = gap; what = what }

-- no blank before it, or one
abbrev pub space : List ℕ
space = 32 ∷ []

abbrev pub tight : What → Piece
tight what = piece [] what

abbrev pub spaced : What → Piece
spaced what = piece space what

abbrev pub word : Word → What
word v = Keyword v

abbrev pub sign : Sign → What
sign v = Mark v

abbrev pub name : Ident → What
name n = NamedWhat n.text

-- ";" after the pieces
abbrev pub ended : List Piece → List Piece
ended ps = ps ++ tight (sign s.Semicolon) ∷ []

-- ---- expressions

abbrev pub builtin_word : Builtin → Word
builtin_word b.Itself = w.SelfWord
builtin_word b.Code = w.Code
builtin_word b.Mask = w.Mask

abbrev pub unary_sign : UnaryOperator → Sign
unary_sign u.Minus = s.Minus
unary_sign u.Not = s.Not

abbrev pub binary_sign : BinaryOperator → Sign
binary_sign o.Or = s.Or
binary_sign o.And = s.And
binary_sign o.Equal = s.Same
binary_sign o.Unequal = s.Differs
binary_sign o.Less = s.Less
binary_sign o.LessOrEqual = s.LessOrSame
binary_sign o.Greater = s.Greater
binary_sign o.GreaterOrEqual = s.GreaterOrSame
binary_sign o.Plus = s.Plus
binary_sign o.Minus = s.Minus
binary_sign o.Times = s.Star
binary_sign o.Divide = s.Slash
binary_sign o.Remainder = s.Percent

-- with brackets or without, after the gap
abbrev pub held : Bool → (List ℕ → List Piece) → List ℕ → List Piece
held true inner gap = piece gap (sign s.Open) ∷ (inner [] ++ tight (sign s.Close) ∷ [])
held false inner gap = inner gap

-- an expression after the gap
abbrev pub expression_pieces : Expression → List ℕ → List Piece
expression_pieces (Number at value) gap = piece gap (Numeral value) ∷ []
expression_pieces (Variable n) gap = piece gap (name n) ∷ []
expression_pieces (Special at builtin) gap = piece gap (word (builtin_word builtin)) ∷ []
expression_pieces (Unary at operator operand) gap =
    piece gap (sign (unary_sign operator)) ∷ held (sign_bracketed operand) (expression_pieces operand) []
expression_pieces (Binary operator left right) gap =
    held (left_bracketed operator left) (expression_pieces left) gap
    ++ (spaced (sign (binary_sign operator)) ∷ held (right_bracketed operator right) (expression_pieces right) space)

-- a number with its sign, after the gap
abbrev pub signed_pieces : ℤ → List ℕ → List Piece
signed_pieces (pos n) gap = piece gap (Numeral (pos n)) ∷ []
signed_pieces (negsuc n) gap = piece gap (sign s.Minus) ∷ tight (Numeral (pos (n + 1))) ∷ []

-- ---- lists

module _ {A : Type 0} (one : A → List ℕ → List Piece) where
  -- each after a comma
  abbrev pub further_pieces : List A → List Piece
  further_pieces [] = []
  further_pieces (x ∷ xs) = tight (sign s.Comma) ∷ (one x space ++ further_pieces xs)

  abbrev pub list_pieces : List A → List Piece
  list_pieces [] = []
  list_pieces (x ∷ xs) = one x [] ++ further_pieces xs

  -- "(" the list ")"
  abbrev pub bracketed_pieces : List A → List Piece
  bracketed_pieces xs = tight (sign s.Open) ∷ (list_pieces xs ++ tight (sign s.Close) ∷ [])

  -- what there may be, after these
  abbrev pub led_by : List Piece → Option A → List Piece
  led_by ps None = []
  led_by ps (Some x) = ps ++ one x space

-- ---- statements

abbrev pub creation_pieces : Creation → List Piece
creation_pieces x =
    spaced (name x.scheduler) ∷ tight (sign s.Dot) ∷ tight (name x.called) ∷ bracketed_pieces expression_pieces x.arguments

abbrev pub control_word : Control → Word
control_word c.Stop = w.Stop
control_word c.Suspend = w.Suspend
control_word c.Resume = w.Resume

-- ", E" and " for E", where there is one
abbrev pub comma_part : Option Expression → List Piece
comma_part e = led_by expression_pieces (tight (sign s.Comma) ∷ []) e

abbrev pub for_part : Option Expression → List Piece
for_part e = led_by expression_pieces (spaced (word w.For) ∷ []) e

abbrev pub name_pieces : Ident → List ℕ → List Piece
name_pieces n gap = piece gap (name n) ∷ []

abbrev pub event_pieces : EventName → List ℕ → List Piece
event_pieces event gap = name_pieces event.name gap

-- the line of a word with a test in brackets, and a word after it
abbrev pub test_line : ℕ → Word → Expression → Word → Line
test_line n before e after =
    line n (tight (word before) ∷ spaced (sign s.Open) ∷ (expression_pieces e [] ++ tight (sign s.Close) ∷ spaced (word after) ∷ []))

abbrev pub end_line : ℕ → Line
end_line n = line n (tight (word w.End) ∷ [])

-- a line that is a word, what follows, and ";"
abbrev pub word_line : ℕ → Word → List Piece → Line
word_line n v ps = line n (tight (word v) ∷ ended ps)

-- statements, with so many blanks at the front of their lines; the bodies in them have two more
abbrev mutual
  pub statement_lines : Statement → ℕ → List Line
  statement_lines (Assign target value) n = line n (tight (name target) ∷ spaced (sign s.Equals) ∷ ended (expression_pieces value space)) ∷ []
  statement_lines (AssignCreate target at creation) n = line n (tight (name target) ∷ spaced (sign s.Equals) ∷ spaced (word w.Create) ∷ ended (creation_pieces creation)) ∷ []
  statement_lines (Create at creation) n = word_line n w.Create (creation_pieces creation) ∷ []
  statement_lines (PrintText at text value) n = word_line n w.Print (spaced (Quoted text) ∷ comma_part value) ∷ []
  statement_lines (PrintValue at value) n = word_line n w.Print (expression_pieces value space) ∷ []
  statement_lines (Cooperate at instants) n = word_line n w.Cooperate (led_by expression_pieces [] instants) ∷ []
  statement_lines (Generate at event value) n = word_line n w.Generate (spaced (name event.name) ∷ comma_part value) ∷ []
  statement_lines (Await at event limit) n = word_line n w.Await (spaced (name event.name) ∷ for_part limit) ∷ []
  statement_lines (Select at [] limit) n = word_line n w.Select (for_part limit) ∷ []
  statement_lines (Select at (event ∷ events) limit) n = word_line n w.Select (spaced (name event.name) ∷ (further_pieces event_pieces events ++ for_part limit)) ∷ []
  statement_lines (Get at event index target) n =
      word_line n w.Get (spaced (name event.name) ∷ spaced (word w.At) ∷ (expression_pieces index space ++ spaced (word w.Into) ∷ spaced (name target) ∷ [])) ∷ []
  statement_lines (Join at thread limit) n = word_line n w.Join (expression_pieces thread space ++ for_part limit) ∷ []
  statement_lines (ControlThread at control thread scheduler) n =
      word_line n (control_word control) (expression_pieces thread space ++ spaced (word w.In) ∷ spaced (name scheduler) ∷ []) ∷ []
  statement_lines (Broadcast at event value) n = word_line n w.Broadcast (spaced (name event.name) ∷ comma_part value) ∷ []
  statement_lines (Link at scheduler) n = word_line n w.Link (spaced (name scheduler) ∷ []) ∷ []
  statement_lines (Unlink at) n = word_line n w.Unlink [] ∷ []
  statement_lines (Run at called arguments) n = word_line n w.Run (spaced (name called) ∷ bracketed_pieces expression_pieces arguments) ∷ []
  statement_lines (Halt at) n = word_line n w.Halt [] ∷ []
  statement_lines (If at test first second) n =
      test_line n w.If test w.Then ∷ (body_lines first (n + 2) ++ (else_lines second n ++ end_line n ∷ []))
  statement_lines (While at test body) n = test_line n w.While test w.Do ∷ (body_lines body (n + 2) ++ end_line n ∷ [])
  statement_lines (Repeat at count body) n = test_line n w.Repeat count w.Do ∷ (body_lines body (n + 2) ++ end_line n ∷ [])

  pub body_lines : Statements → ℕ → List Line
  body_lines Done n = []
  body_lines (Then first rest) n = statement_lines first n ++ body_lines rest n

  -- an empty body has no `else`
  pub else_lines : Statements → ℕ → List Line
  else_lines Done n = []
  else_lines (Then first rest) n = line n (tight (word w.Else) ∷ []) ∷ (statement_lines first (n + 2) ++ body_lines rest (n + 2))

-- ---- items

abbrev pub kind_word : Kind → Word
kind_word k.Int = w.Int
kind_word k.Thread = w.Thread

abbrev pub named_pieces : Named → List ℕ → List Piece
named_pieces v gap = piece gap (word (kind_word v.kind)) ∷ spaced (name v.name) ∷ []

abbrev pub place_pieces : PlaceName → List ℕ → List Piece
place_pieces (InScheduler n) gap = piece gap (name n) ∷ []
place_pieces Unlinked gap = piece gap (word w.Unlinked) ∷ []

abbrev pub head_line : ModuleHead → Line
head_line h =
    line 0 (tight (word w.Module) ∷ spaced (name h.name) ∷ (bracketed_pieces named_pieces h.parameters
    ++ spaced (word w.In) ∷ (place_pieces h.begin space ++ led_by place_pieces (spaced (word w.To) ∷ []) h.end)))

-- a local variable after so many blanks
abbrev pub local_line : ℕ → Named → Line
local_line n v = word_line n w.Local (named_pieces v space)

abbrev pub local_lines : List Named → List Line
local_lines [] = []
local_lines (v ∷ vs) = local_line 2 v ∷ local_lines vs

abbrev pub argument_pieces : Argument → List ℕ → List Piece
argument_pieces (ANumber at value) gap = signed_pieces value gap
argument_pieces (AName n) gap = piece gap (name n) ∷ []

-- " S.m(A, B)"
abbrev pub call_pieces : Ident → Ident → List Argument → List Piece
call_pieces scheduler called arguments =
    spaced (name scheduler) ∷ tight (sign s.Dot) ∷ tight (name called) ∷ bracketed_pieces argument_pieces arguments

abbrev pub order_line : Order → Line
order_line (CreateThere scheduler called arguments) = word_line 2 w.Create (call_pieces scheduler called arguments)
order_line (ControlThere control thread scheduler) =
    word_line 2 (control_word control) (spaced (name thread) ∷ spaced (word w.In) ∷ spaced (name scheduler) ∷ [])
order_line (BroadcastThere event value) = word_line 2 w.Broadcast (spaced (name event.name) ∷ led_by signed_pieces (tight (sign s.Comma) ∷ []) value)

abbrev pub order_lines : List Order → List Line
order_lines [] = []
order_lines (x ∷ xs) = order_line x ∷ order_lines xs

-- the lines around the orders of a client
abbrev pub outside_line : Ident → Line
outside_line n = line 0 (tight (word w.Outside) ∷ spaced (name n) ∷ spaced (sign s.OpenBrace) ∷ [])

abbrev pub brace_line : Line
brace_line = line 0 (tight (sign s.CloseBrace) ∷ [])

abbrev pub declaration_lines : Declaration → List Line
declaration_lines (Scheduler n) = word_line 0 w.Scheduler (spaced (name n) ∷ []) ∷ []
declaration_lines (Event n scheduler) = word_line 0 w.Event (spaced (name n) ∷ spaced (word w.In) ∷ spaced (name scheduler) ∷ []) ∷ []
declaration_lines (Shared n scheduler value) =
    word_line 0 w.Shared (spaced (name n) ∷ spaced (word w.In) ∷ spaced (name scheduler) ∷ spaced (sign s.Equals) ∷ signed_pieces value space) ∷ []
declaration_lines (Module head locals body) = head_line head ∷ (local_lines locals ++ (body_lines body 2 ++ end_line 0 ∷ []))
declaration_lines (Start scheduler called arguments n) =
    word_line 0 w.Start (call_pieces scheduler called arguments ++ led_by name_pieces (spaced (word w.As) ∷ []) n) ∷ []
declaration_lines (Outside n orders) =
    outside_line n ∷ (order_lines orders ++ brace_line ∷ [])

abbrev pub source_lines : Source → List Line
source_lines [] = []
source_lines (d ∷ ds) = declaration_lines d ++ source_lines ds

-- the canonical text
abbrev pub Canon : Source → List ℕ
Canon p = lines_text (source_lines p)
