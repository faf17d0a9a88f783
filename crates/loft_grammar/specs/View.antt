-- What readers return, without where it lies in memory.
use Rattle.std.specs.Prelude.{ℕ, List, [], ◌∷◌, ◌++◌, map, Option, Some, None, Ok, Err}
use Rattle.std.specs.Global.{Vec}
use Rattle.std.specs.Option.{option_map}
use Rattle.loft_lex.specs.Symbol.{Symbol}
use Rattle.loft_lex.specs.Seen.{symbol_seen}
use Rattle.loft_tree.specs.Source.{EventName, Expression, Statement, Named, Argument, Order, Source}
use Rattle.loft_tree.specs.View.{event_name_of, expression_of, statement_of, named_of, argument_of, order_of, source_of}
use Rattle.loft_tree.specs.declared.expression.Expr.{Expr}
use Rattle.loft_tree.specs.declared.kinds.BinaryOperator.{BinaryOperator}
use Rattle.loft_tree.specs.declared.statement.Stmt.{Stmt}
use Rattle.loft_tree.specs.declared.statement.EventName.{EventName as EventNameInMemory}
use Rattle.loft_tree.specs.declared.program.Variable.{Variable}
use Rattle.loft_tree.specs.declared.program.Argument.{Argument as ArgumentInMemory}
use Rattle.loft_tree.specs.declared.program.OutsideOrder.{OutsideOrder as OrderInMemory}
use Rattle.loft_tree.specs.declared.program.Item.{Item}
use Rattle.loft_form.specs.Form.{Limits, State}
use Rattle.loft_form.specs.Reading.{Place, Read, read}
use Rattle.loft_grammar.specs.declared.counts.Counted.{Counted}
use Rattle.loft_grammar.specs.declared.cursor.Cursor.{Cursor}
use Rattle.loft_grammar.specs.Language.{Language}
use Rattle.loft_grammar.specs.Symbols.{Form}
use Rattle.loft_grammar.specs.Statements.{rules}

-- what is left to read
abbrev pub symbols_at : Cursor → List Symbol
symbols_at at = map symbol_seen at.symbols.now

abbrev pub due_of : Option Counted → List Counted
due_of None = []
due_of (Some what) = what ∷ []

abbrev pub state_at : Cursor → State Language
state_at at = record { counts = at.counts; due = due_of at.due }

abbrev pub place_of : Cursor → Place Language
place_of at = record { rest = symbols_at at; state = state_at at }

-- reading a form, where these limits hold and n nestings may still be opened
abbrev pub reads : {A : Type 0} → Limits Language → ℕ → Form A → Cursor → Read Language A
reads lim n f at = read rules lim n f (symbols_at at) (state_at at)

-- reading a form that opens no nesting, so that it doesn't matter how many may still be opened
abbrev pub reads_flat : {A : Type 0} → Limits Language → Form A → Cursor → Read Language A
reads_flat lim f at = reads lim 0 f at

-- the next symbol counts as one more of these too, if of any
abbrev pub owed : Option Counted → State Language → State Language
owed what c = record { counts = c.counts; due = c.due ++ due_of what }

-- these first, and then what is read
abbrev pub with_front : {A : Type 0} → List A → Read Language (List A) → Read Language (List A)
with_front xs (Ok y) = Ok (xs ++ y.0, y.1)
with_front xs (Err e) = Err e

-- what a reader returns, where `view` tells what its value is
abbrev pub viewed : {X A : Type 0} → (X → A) → X × Cursor → A × Place Language
viewed view x = (view x.0, place_of x.1)

-- a value that is what it is
abbrev pub itself : {A : Type 0} → A × Cursor → A × Place Language
itself x = (x.0, place_of x.1)

abbrev pub mark_view : Cursor → Unit {0} × Place Language
mark_view at = (tt, place_of at)

abbrev pub expressions_of : Vec Expr → List Expression
expressions_of es = map expression_of es.items

abbrev pub event_names_of : Vec EventNameInMemory → List EventName
event_names_of events = map event_name_of events.items

abbrev pub statement_list_of : Vec Stmt → List Statement
statement_list_of ss = map statement_of ss.items

abbrev pub variables_of : Vec Variable → List Named
variables_of vs = map named_of vs.items

abbrev pub arguments_of : Vec ArgumentInMemory → List Argument
arguments_of as' = map argument_of as'.items

abbrev pub orders_of : Vec OrderInMemory → List Order
orders_of os = map order_of os.items

abbrev pub declarations_of : Vec Item → Source
declarations_of items = source_of items.items

-- what an `if` holds, and what a loop holds
abbrev pub branches_of : Expr × Vec Stmt × Option (Vec Stmt) → Expression × (List Statement × Option (List Statement))
branches_of x = (expression_of x.0, (statement_list_of x.1, option_map statement_list_of x.2))

abbrev pub turns_of : Expr × Vec Stmt → Expression × List Statement
turns_of x = (expression_of x.0, statement_list_of x.1)

abbrev pub operation_of : BinaryOperator × Expr → BinaryOperator × Expression
operation_of x = (x.0, expression_of x.1)
