-- Parts of rules, which functions of their own read: mostly the ends of statements, orders and declarations.
use Rattle.std.specs.Prelude.{ℕ, ℤ, List, Option, ◌⊎◌}
use Rattle.std.specs.Global.{Vec}
use Rattle.std.specs.Option.{option_map}
use Rattle.std.proofs.Common.{inl, inr}
use Rattle.loft_lex.specs.declared.word.Word.{Word}
use Rattle.loft_lex.specs.declared.word.Word.TheVariants as w
use Rattle.loft_lex.specs.declared.sign.Sign.{Sign}
use Rattle.loft_lex.specs.declared.sign.Sign.TheVariants as s
use Rattle.loft_tree.specs.declared.kinds.UnaryOperator.{UnaryOperator}
use Rattle.loft_tree.specs.Source.{Ident, Expression, Unary, Creation, Statement, PlaceName, Argument}
use Rattle.loft_tree.specs.View.{expression_of, value_of, creation_of, place_name_of}
use Rattle.loft_tree.specs.declared.expression.Expr.{Expr}
use Rattle.loft_tree.specs.declared.statement.Creation.{Creation as CreationInMemory}
use Rattle.loft_tree.specs.declared.statement.Stmt.{Stmt}
use Rattle.loft_tree.specs.declared.program.PlaceName.{PlaceName as PlaceNameInMemory}
use Rattle.loft_tree.specs.declared.program.Argument.{Argument as ArgumentInMemory}
use Rattle.loft_form.specs.Form.{◌▹◌, maybe, inside, fresh, made}
use Rattle.loft_grammar.specs.declared.counts.Counted.TheVariants as count
use Rattle.loft_grammar.specs.Language.{Looped, Signed}
use Rattle.loft_grammar.specs.View.{arguments_of, statement_list_of}
use Rattle.loft_grammar.specs.Symbols.{Form, name, text, word, word_place, sign, opening_sign}
use Rattle.loft_grammar.specs.Expressions.{whole}
use Rattle.loft_grammar.specs.Statements.{opens_with, creation, after_comma, time_limit, body}
use Rattle.loft_grammar.specs.Items.{place, ending, signed, outer_arguments, alias}

-- [ "," expression ] ";"
abbrev pub value_end : Form (Option Expression × Unit {0})
value_end = maybe after_comma ▹ sign s.Semicolon

-- [ "for" expression ] ";"
abbrev pub limit_end : Form (Option Expression × Unit {0})
limit_end = maybe time_limit ▹ sign s.Semicolon

-- this word, name ";"
abbrev pub name_end : Word → Form (Unit {0} × (Ident × Unit {0}))
name_end v = word v ▹ name ▹ sign s.Semicolon

-- "create" creation ";", after "="
abbrev pub created_end : Form (((ℕ × Creation) ⊎ Expression) × Unit {0})
created_end = made inl (word_place w.Create ▹ creation) ▹ sign s.Semicolon

-- expression ";", after "="
abbrev pub assigned_end : Form (((ℕ × Creation) ⊎ Expression) × Unit {0})
assigned_end = made inr whole ▹ sign s.Semicolon

-- text [ "," expression ] ";"
abbrev pub text_end : Form (((List ℕ × Option Expression) ⊎ Expression) × Unit {0})
text_end = made inl (text ▹ maybe after_comma) ▹ sign s.Semicolon

-- "at" expression "into" name ";"
abbrev pub get_end : Form (Unit {0} × (Expression × (Unit {0} × (Ident × Unit {0}))))
get_end = word w.At ▹ whole ▹ word w.Into ▹ name ▹ sign s.Semicolon

-- "in" name "=" signed ";"
abbrev pub shared_end : Form (Unit {0} × (Ident × (Unit {0} × ((ℕ × ℤ) × Unit {0}))))
shared_end = word w.In ▹ name ▹ sign s.Equals ▹ signed ▹ sign s.Semicolon

-- "(" [ argument { "," argument } ] ")" [ "as" name ] ";"
abbrev pub start_end : Form (List Argument × (Option Ident × Unit {0}))
start_end = outer_arguments ▹ maybe alias ▹ sign s.Semicolon

-- "." name "(" [ argument { "," argument } ] ")" ";"
abbrev pub create_end : Form (Unit {0} × (Ident × (List Argument × Unit {0})))
create_end = sign s.Dot ▹ name ▹ outer_arguments ▹ sign s.Semicolon

-- "in" place [ "to" place ]
abbrev pub head_end : Form (Unit {0} × (PlaceName × Option PlaceName))
head_end = word w.In ▹ place ▹ maybe ending

-- body "end"
abbrev pub body_end : Form (List Statement × Unit {0})
body_end = fresh count.Statement body ▹ word w.End

-- an operator before an operand: "-" unary, "!" unary
abbrev pub prefixed : Sign → UnaryOperator → Form Expression
prefixed v operator = made (λ x. Unary x.0 operator x.1) (opening_sign v ▹ inside Signed)

-- a statement that repeats a body, and begins with this word
abbrev pub looped : Word → Form (ℕ × ((Expression × List Statement) × Unit {0}))
looped v = opens_with v ▹ inside Looped ▹ word w.End

-- what these parts hold, without where it lies in memory
abbrev pub value_end_of : Option Expr → Option Expression × Unit {0}
value_end_of e = (value_of e, tt)

abbrev pub name_end_of : Ident → Unit {0} × (Ident × Unit {0})
name_end_of name = (tt, (name, tt))

abbrev pub created_end_of : ℕ × CreationInMemory → ((ℕ × Creation) ⊎ Expression) × Unit {0}
created_end_of x = (inl (x.0, creation_of x.1), tt)

abbrev pub assigned_end_of : Expr → ((ℕ × Creation) ⊎ Expression) × Unit {0}
assigned_end_of e = (inr (expression_of e), tt)

abbrev pub text_end_of : List ℕ × Option Expr → ((List ℕ × Option Expression) ⊎ Expression) × Unit {0}
text_end_of x = (inl (x.0, value_of x.1), tt)

abbrev pub get_end_of : Expr × Ident → Unit {0} × (Expression × (Unit {0} × (Ident × Unit {0})))
get_end_of x = (tt, (expression_of x.0, (tt, (x.1, tt))))

abbrev pub shared_end_of : Ident × (ℕ × ℤ) → Unit {0} × (Ident × (Unit {0} × ((ℕ × ℤ) × Unit {0})))
shared_end_of x = (tt, (x.0, (tt, (x.1, tt))))

abbrev pub start_end_of : Vec ArgumentInMemory × Option Ident → List Argument × (Option Ident × Unit {0})
start_end_of x = (arguments_of x.0, (x.1, tt))

abbrev pub create_end_of : Ident × Vec ArgumentInMemory → Unit {0} × (Ident × (List Argument × Unit {0}))
create_end_of x = (tt, (x.0, (arguments_of x.1, tt)))

abbrev pub head_end_of : PlaceNameInMemory × Option PlaceNameInMemory → Unit {0} × (PlaceName × Option PlaceName)
head_end_of x = (tt, (place_name_of x.0, option_map place_name_of x.1))

abbrev pub body_end_of : Vec Stmt → List Statement × Unit {0}
body_end_of ss = (statement_list_of ss, tt)

abbrev pub looped_of : ℕ × Expr × Vec Stmt → ℕ × ((Expression × List Statement) × Unit {0})
looped_of x = (x.0, ((expression_of x.1, statement_list_of x.2), tt))
