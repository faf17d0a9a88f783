-- The grammar of declarations and programs (docs/LANGUAGE.md, "Grammar"), one form for each rule.
use Rattle.std.specs.Prelude.{ℕ, ℤ, pos, ◌-ℤ◌, List, Option, Some, None, if◌then◌else◌}
use Rattle.loft_base.specs.Arithmetic.{wrapped}
use Rattle.loft_lex.specs.declared.word.Word.TheVariants as w
use Rattle.loft_lex.specs.declared.sign.Sign.TheVariants as s
use Rattle.loft_tree.specs.declared.kinds.Kind.{Kind}
use Rattle.loft_tree.specs.declared.kinds.Kind.TheVariants as k
use Rattle.loft_tree.specs.Source.{Ident, Statement, Create, Broadcast, Named, PlaceName, InScheduler, Unlinked, ModuleHead, Argument, ANumber, AName, Order, CreateThere, ControlThere, BroadcastThere, Declaration, Scheduler, Event, Shared, Module, Start, Outside, Source}
use Rattle.loft_tree.specs.View.{body_of}
use Rattle.loft_tree.specs.Fits.{same_place}
use Rattle.loft_form.specs.Form.{◌▹◌, ◌∣◌, maybe, many, counted, fresh, made}
use Rattle.loft_grammar.specs.declared.counts.Counted.{Counted}
use Rattle.loft_grammar.specs.declared.counts.Counted.TheVariants as count
use Rattle.loft_grammar.specs.Symbols.{Form, word, sign, sign_place, name, numeral, counting, first_word}
use Rattle.loft_grammar.specs.Expressions.{in_brackets}
use Rattle.loft_grammar.specs.Statements.{event_name, control_word, body}

-- "-" number
unfoldable pub negative : Form (ℕ × ℤ)
negative = made (λ x. (x.0, wrapped (pos 0 -ℤ x.1.1))) (sign_place s.Minus ▹ numeral)

-- signed = [ "-" ] number, with the place of its first symbol
unfoldable pub signed : Form (ℕ × ℤ)
signed = numeral ∣ negative

-- kind = "int" | "thread"
abbrev pub kind : Option Counted → Form Kind
kind what = made (λ _. k.Int) (counting what (word w.Int)) ∣ made (λ _. k.Thread) (counting what (word w.Thread))

-- parameter = kind name
unfoldable pub parameter : Form Named
parameter = made (λ x. record { kind = x.0; name = x.1 }) (kind (Some count.Parameter) ▹ name)

unfoldable pub parameters : Form (List Named)
parameters = in_brackets count.Parameter parameter

-- "local" kind name ";"
unfoldable pub local : Form Named
local =
    made (λ x. record { kind = x.1.0; name = x.1.1.0 })
    (first_word count.Local w.Local ▹ kind None ▹ name ▹ sign s.Semicolon)

-- place = name | "unlinked"
unfoldable pub place : Form PlaceName
place = made InScheduler name ∣ made (λ _. Unlinked) (word w.Unlinked)

-- "to" place
unfoldable pub ending : Form PlaceName
ending = made (λ x. x.1) (word w.To ▹ place)

-- an end place that is the begin place isn't kept
abbrev pub end_of : PlaceName → Option PlaceName → Option PlaceName
end_of begin None = None
end_of begin (Some end) = if same_place begin end then None else Some end

-- "module" name "(" [ parameter { "," parameter } ] ")" "in" place [ "to" place ]
unfoldable pub head : Form ModuleHead
head =
    made (λ x. record { name = x.1.0; parameters = x.1.1.0; begin = x.1.1.1.1.0; end = end_of x.1.1.1.1.0 x.1.1.1.1.1 })
    (first_word count.Module w.Module ▹ name ▹ parameters ▹ word w.In ▹ place ▹ maybe ending)

-- head { local } body "end"
unfoldable pub module_item : Form Declaration
module_item =
    made (λ x. Module x.0 x.1.0 (body_of x.1.1.0))
    (head ▹ fresh count.Local (many local) ▹ fresh count.Statement body ▹ word w.End)

-- "scheduler" name ";"
unfoldable pub scheduler_item : Form Declaration
scheduler_item = made (λ x. Scheduler x.1.0) (first_word count.Scheduler w.Scheduler ▹ name ▹ sign s.Semicolon)

-- "event" name "in" name ";"
unfoldable pub event_item : Form Declaration
event_item = made (λ x. Event x.1.0 x.1.1.1.0) (first_word count.Event w.Event ▹ name ▹ word w.In ▹ name ▹ sign s.Semicolon)

-- "shared" name "in" name "=" signed ";"
unfoldable pub shared_item : Form Declaration
shared_item =
    made (λ x. Shared x.1.0 x.1.1.1.0 x.1.1.1.1.1.0.1)
    (first_word count.Shared w.Shared ▹ name ▹ word w.In ▹ name ▹ sign s.Equals ▹ signed ▹ sign s.Semicolon)

-- signed | name, which is one more argument
unfoldable pub outer_argument : Form Argument
outer_argument = counted count.Argument (made (λ x. ANumber x.0 x.1) signed ∣ made AName name)

unfoldable pub outer_arguments : Form (List Argument)
outer_arguments = in_brackets count.Argument outer_argument

-- "as" name
unfoldable pub alias : Form Ident
alias = made (λ x. x.1) (word w.As ▹ name)

-- "start" name "." name "(" [ argument { "," argument } ] ")" [ "as" name ] ";"
unfoldable pub start_item : Form Declaration
start_item =
    made (λ x. Start x.1.0 x.1.1.1.0 x.1.1.1.1.0 x.1.1.1.1.1.0)
    (first_word count.Start w.Start ▹ name ▹ sign s.Dot ▹ name ▹ outer_arguments ▹ maybe alias ▹ sign s.Semicolon)

-- "create" name "." name "(" [ argument { "," argument } ] ")" ";"
unfoldable pub create_order : Form Order
create_order =
    made (λ x. CreateThere x.1.0 x.1.1.1.0 x.1.1.1.1.0)
    (first_word count.Order w.Create ▹ name ▹ sign s.Dot ▹ name ▹ outer_arguments ▹ sign s.Semicolon)

-- ( "stop" | "suspend" | "resume" ) name "in" name ";"
unfoldable pub control_order : Form Order
control_order =
    made (λ x. ControlThere x.0.1 x.1.0 x.1.1.1.0)
    (control_word count.Order ▹ name ▹ word w.In ▹ name ▹ sign s.Semicolon)

-- "," signed
unfoldable pub value_after_comma : Form ℤ
value_after_comma = made (λ x. x.1.1) (sign s.Comma ▹ signed)

-- "broadcast" name [ "," signed ] ";"
unfoldable pub broadcast_order : Form Order
broadcast_order =
    made (λ x. BroadcastThere x.1.0 x.1.1.0)
    (first_word count.Order w.Broadcast ▹ event_name ▹ maybe value_after_comma ▹ sign s.Semicolon)

unfoldable pub order : Form Order
order = create_order ∣ control_order ∣ broadcast_order

-- "outside" name "{" { order } "}"
unfoldable pub outside_item : Form Declaration
outside_item =
    made (λ x. Outside x.1.0 x.1.1.1.0)
    (first_word count.Client w.Outside ▹ name ▹ sign s.OpenBrace ▹ fresh count.Order (many order) ▹ sign s.CloseBrace)

unfoldable pub item : Form Declaration
item = scheduler_item ∣ event_item ∣ shared_item ∣ module_item ∣ start_item ∣ outside_item

-- program = { item }
unfoldable pub program : Form Source
program = many item
