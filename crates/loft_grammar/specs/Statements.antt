-- The grammar of statements (docs/LANGUAGE.md, "Grammar"), one form for each rule.
use Rattle.std.specs.Prelude.{ℕ, List, ◌∷◌, Option, Some, None, ◌⊎◌}
use Rattle.std.proofs.Common.{inl, inr}
use Rattle.loft_lex.specs.declared.word.Word.{Word}
use Rattle.loft_lex.specs.declared.word.Word.TheVariants as w
use Rattle.loft_lex.specs.declared.sign.Sign.TheVariants as s
use Rattle.loft_tree.specs.declared.kinds.Control.{Control}
use Rattle.loft_tree.specs.declared.kinds.Control.TheVariants as c
use Rattle.loft_tree.specs.Source.{Ident, EventName, Expression, Creation, Statement, Assign, AssignCreate, Create, PrintText, PrintValue, Cooperate, Generate, Await, Select, Get, Join, ControlThread, Broadcast, Link, Unlink, Run, Halt, If, While, Repeat, Statements, Done}
use Rattle.loft_tree.specs.View.{body_of}
use Rattle.loft_form.specs.Form.{Grammar, ◌▹◌, ◌∣◌, maybe, many, inside, counted, fresh, made}
use Rattle.loft_grammar.specs.declared.counts.Counted.{Counted}
use Rattle.loft_grammar.specs.declared.counts.Counted.TheVariants as count
use Rattle.loft_grammar.specs.Language.{Language, Bracketed, Signed, Conditional, Looped}
use Rattle.loft_grammar.specs.Symbols.{Form, word, sign, word_place, opening_word, name, text, counting, first_word}
use Rattle.loft_grammar.specs.Expressions.{unary, expression, whole, further, arguments}

abbrev pub begins_with : Word → Form ℕ
begins_with v = first_word count.Statement v

abbrev pub opens_with : Word → Form ℕ
opens_with v = counted count.Statement (opening_word v)

-- name "." name "(" [ expression { "," expression } ] ")"
unfoldable pub creation : Form Creation
creation =
    made (λ x. record { scheduler = x.0; called = x.1.1.0; arguments = x.1.1.1 })
    (name ▹ sign s.Dot ▹ name ▹ arguments)

-- "," expression
unfoldable pub after_comma : Form Expression
after_comma = further whole

-- "for" expression
unfoldable pub time_limit : Form Expression
time_limit = made (λ x. x.1) (word w.For ▹ whole)

-- "create" creation | expression
unfoldable pub assigned : Form ((ℕ × Creation) ⊎ Expression)
assigned = made inl (word_place w.Create ▹ creation) ∣ made inr whole

abbrev pub assignment_of : Ident → (ℕ × Creation) ⊎ Expression → Statement
assignment_of target (inl x) = AssignCreate target x.0 x.1
assignment_of target (inr e) = Assign target e

-- name "=" ( "create" creation | expression ) ";"
unfoldable pub assignment : Form Statement
assignment =
    made (λ x. assignment_of x.0 x.1.1.0)
    (counting (Some count.Statement) name ▹ sign s.Equals ▹ assigned ▹ sign s.Semicolon)

-- text [ "," expression ] | expression
unfoldable pub printed : Form ((List ℕ × Option Expression) ⊎ Expression)
printed = made inl (text ▹ maybe after_comma) ∣ made inr whole

abbrev pub print_of : ℕ → (List ℕ × Option Expression) ⊎ Expression → Statement
print_of at (inl x) = PrintText at x.0 x.1
print_of at (inr e) = PrintValue at e

-- "print" ( text [ "," expression ] | expression ) ";"
unfoldable pub print : Form Statement
print = made (λ x. print_of x.0 x.1.0) (begins_with w.Print ▹ printed ▹ sign s.Semicolon)

-- "create" creation ";"
unfoldable pub create : Form Statement
create = made (λ x. Create x.0 x.1.0) (begins_with w.Create ▹ creation ▹ sign s.Semicolon)

-- "cooperate" [ expression ] ";"
unfoldable pub cooperate : Form Statement
cooperate = made (λ x. Cooperate x.0 x.1.0) (begins_with w.Cooperate ▹ maybe whole ▹ sign s.Semicolon)

-- an event that is named
abbrev pub event_name : Form EventName
event_name = made (λ n. record { name = n }) name

-- "generate" name [ "," expression ] ";"
unfoldable pub generate : Form Statement
generate = made (λ x. Generate x.0 x.1.0 x.1.1.0) (begins_with w.Generate ▹ event_name ▹ maybe after_comma ▹ sign s.Semicolon)

-- "await" name [ "for" expression ] ";"
unfoldable pub await_event : Form Statement
await_event = made (λ x. Await x.0 x.1.0 x.1.1.0) (begins_with w.Await ▹ event_name ▹ maybe time_limit ▹ sign s.Semicolon)

unfoldable pub choice : Form EventName
choice = counting (Some count.Choice) event_name

-- name "," name { "," name }
unfoldable pub choices : Form (List EventName)
choices = made (λ x. x.0 ∷ x.1.0 ∷ x.1.1) (choice ▹ further choice ▹ many (further choice))

-- "select" name "," name { "," name } [ "for" expression ] ";"
unfoldable pub select : Form Statement
select =
    made (λ x. Select x.0 x.1.0 x.1.1.0)
    (begins_with w.Select ▹ fresh count.Choice choices ▹ maybe time_limit ▹ sign s.Semicolon)

-- "get" name "at" expression "into" name ";"
unfoldable pub get : Form Statement
get =
    made (λ x. Get x.0 x.1.0 x.1.1.1.0 x.1.1.1.1.1.0)
    (begins_with w.Get ▹ event_name ▹ word w.At ▹ whole ▹ word w.Into ▹ name ▹ sign s.Semicolon)

-- "join" expression [ "for" expression ] ";"
unfoldable pub join : Form Statement
join = made (λ x. Join x.0 x.1.0 x.1.1.0) (begins_with w.Join ▹ whole ▹ maybe time_limit ▹ sign s.Semicolon)

-- "stop" | "suspend" | "resume", which begins one more of these
abbrev pub control_word : Counted → Form (ℕ × Control)
control_word what =
    made (λ at. (at, c.Stop)) (first_word what w.Stop)
    ∣ made (λ at. (at, c.Suspend)) (first_word what w.Suspend)
    ∣ made (λ at. (at, c.Resume)) (first_word what w.Resume)

-- ( "stop" | "suspend" | "resume" ) expression "in" name ";"
unfoldable pub control : Form Statement
control =
    made (λ x. ControlThread x.0.0 x.0.1 x.1.0 x.1.1.1.0)
    (control_word count.Statement ▹ whole ▹ word w.In ▹ name ▹ sign s.Semicolon)

-- "broadcast" name [ "," expression ] ";"
unfoldable pub broadcast : Form Statement
broadcast = made (λ x. Broadcast x.0 x.1.0 x.1.1.0) (begins_with w.Broadcast ▹ event_name ▹ maybe after_comma ▹ sign s.Semicolon)

-- "link" name ";"
unfoldable pub link : Form Statement
link = made (λ x. Link x.0 x.1.0) (begins_with w.Link ▹ name ▹ sign s.Semicolon)

-- "unlink" ";"
unfoldable pub unlink : Form Statement
unlink = made (λ x. Unlink x.0) (begins_with w.Unlink ▹ sign s.Semicolon)

-- "run" name "(" [ expression { "," expression } ] ")" ";"
unfoldable pub run : Form Statement
run = made (λ x. Run x.0 x.1.0 x.1.1.0) (begins_with w.Run ▹ name ▹ arguments ▹ sign s.Semicolon)

-- "halt" ";"
unfoldable pub halt : Form Statement
halt = made (λ x. Halt x.0) (begins_with w.Halt ▹ sign s.Semicolon)

-- no `else` is an empty one
abbrev pub else_of : Option (List Statement) → Statements
else_of None = Done
else_of (Some body) = body_of body

abbrev pub if_of : ℕ → Expression × (List Statement × Option (List Statement)) → Statement
if_of at x = If at x.0 (body_of x.1.0) (else_of x.1.1)

-- "if" "(" expression ")" "then" body [ "else" body ] "end"; all but the last word stands inside
unfoldable pub conditional : Form Statement
conditional = made (λ x. if_of x.0 x.1.0) (opens_with w.If ▹ inside Conditional ▹ word w.End)

-- "while" "(" expression ")" "do" body "end"
unfoldable pub while_loop : Form Statement
while_loop = made (λ x. While x.0 x.1.0.0 (body_of x.1.0.1)) (opens_with w.While ▹ inside Looped ▹ word w.End)

-- "repeat" "(" expression ")" "do" body "end"
unfoldable pub repeat : Form Statement
repeat = made (λ x. Repeat x.0 x.1.0.0 (body_of x.1.0.1)) (opens_with w.Repeat ▹ inside Looped ▹ word w.End)

unfoldable pub value_statement : Form Statement
value_statement = assignment ∣ print ∣ create

unfoldable pub event_statement : Form Statement
event_statement = generate ∣ await_event ∣ select ∣ get ∣ broadcast

unfoldable pub thread_statement : Form Statement
thread_statement = cooperate ∣ join ∣ control ∣ run ∣ halt

unfoldable pub moving_statement : Form Statement
moving_statement = link ∣ unlink ∣ conditional ∣ while_loop ∣ repeat

unfoldable pub statement : Form Statement
statement = value_statement ∣ event_statement ∣ thread_statement ∣ moving_statement

-- body = { statement }
unfoldable pub body : Form (List Statement)
body = many statement

-- "(" expression ")"
unfoldable pub condition : Form Expression
condition = made (λ x. x.1.0) (sign s.Open ▹ whole ▹ sign s.Close)

-- "else" body
unfoldable pub otherwise : Form (List Statement)
otherwise = made (λ x. x.1) (word w.Else ▹ body)

-- "(" expression ")" "then" body [ "else" body ]
unfoldable pub branches : Form (Expression × (List Statement × Option (List Statement)))
branches = made (λ x. (x.0, (x.1.1.0, x.1.1.1))) (condition ▹ word w.Then ▹ body ▹ maybe otherwise)

-- "(" expression ")" "do" body
unfoldable pub turns : Form (Expression × List Statement)
turns = made (λ x. (x.0, x.1.1)) (condition ▹ word w.Do ▹ body)

-- the rules that stand inside themselves
abbrev pub rules : Grammar Language
rules Bracketed = expression
rules Signed = unary
rules Conditional = branches
rules Looped = turns
