-- Programs without the places where they stand in a text.
use Rattle.std.specs.Prelude.{map, Option}
use Rattle.std.specs.Option.{option_map}
use Rattle.loft_tree.specs.Source.{Ident, EventName, Expression, Number, Variable, Special, Unary, Binary, Creation, Statement, Assign, AssignCreate, Create, PrintText, PrintValue, Cooperate, Generate, Await, Select, Get, Join, ControlThread, Broadcast, Link, Unlink, Run, Halt, If, While, Repeat, Statements, Done, Then, Named, PlaceName, InScheduler, Unlinked, ModuleHead, Argument, ANumber, AName, Order, CreateThere, ControlThere, BroadcastThere, Declaration, Scheduler, Event, Shared, Module, Start, Outside, Source}

-- every place becomes 0
abbrev pub bare_name : Ident → Ident
bare_name n = record { text = n.text; at = 0 }

abbrev pub bare_expression : Expression → Expression
bare_expression (Number at value) = Number 0 value
bare_expression (Variable name) = Variable (bare_name name)
bare_expression (Special at builtin) = Special 0 builtin
bare_expression (Unary at operator operand) = Unary 0 operator (bare_expression operand)
bare_expression (Binary operator left right) = Binary operator (bare_expression left) (bare_expression right)

abbrev pub bare_value : Option Expression → Option Expression
bare_value e = option_map bare_expression e

abbrev pub bare_event : EventName → EventName
bare_event event = record { name = bare_name event.name }

abbrev pub bare_creation : Creation → Creation
bare_creation x = record { scheduler = bare_name x.scheduler; called = bare_name x.called; arguments = map bare_expression x.arguments }

abbrev mutual
  pub bare_statement : Statement → Statement
  bare_statement (Assign target value) = Assign (bare_name target) (bare_expression value)
  bare_statement (AssignCreate target at creation) = AssignCreate (bare_name target) 0 (bare_creation creation)
  bare_statement (Create at creation) = Create 0 (bare_creation creation)
  bare_statement (PrintText at line value) = PrintText 0 line (bare_value value)
  bare_statement (PrintValue at value) = PrintValue 0 (bare_expression value)
  bare_statement (Cooperate at instants) = Cooperate 0 (bare_value instants)
  bare_statement (Generate at event value) = Generate 0 (bare_event event) (bare_value value)
  bare_statement (Await at event limit) = Await 0 (bare_event event) (bare_value limit)
  bare_statement (Select at events limit) = Select 0 (map bare_event events) (bare_value limit)
  bare_statement (Get at event index target) = Get 0 (bare_event event) (bare_expression index) (bare_name target)
  bare_statement (Join at thread limit) = Join 0 (bare_expression thread) (bare_value limit)
  bare_statement (ControlThread at control thread scheduler) = ControlThread 0 control (bare_expression thread) (bare_name scheduler)
  bare_statement (Broadcast at event value) = Broadcast 0 (bare_event event) (bare_value value)
  bare_statement (Link at scheduler) = Link 0 (bare_name scheduler)
  bare_statement (Unlink at) = Unlink 0
  bare_statement (Run at called arguments) = Run 0 (bare_name called) (map bare_expression arguments)
  bare_statement (Halt at) = Halt 0
  bare_statement (If at test first second) = If 0 (bare_expression test) (bare_body first) (bare_body second)
  bare_statement (While at test body) = While 0 (bare_expression test) (bare_body body)
  bare_statement (Repeat at count body) = Repeat 0 (bare_expression count) (bare_body body)

  pub bare_body : Statements → Statements
  bare_body Done = Done
  bare_body (Then first rest) = Then (bare_statement first) (bare_body rest)

abbrev pub bare_named : Named → Named
bare_named v = record { kind = v.kind; name = bare_name v.name }

abbrev pub bare_place : PlaceName → PlaceName
bare_place (InScheduler name) = InScheduler (bare_name name)
bare_place Unlinked = Unlinked

abbrev pub bare_head : ModuleHead → ModuleHead
bare_head h = record {
  name = bare_name h.name;
  parameters = map bare_named h.parameters;
  begin = bare_place h.begin;
  end = option_map bare_place h.end;
}

abbrev pub bare_argument : Argument → Argument
bare_argument (ANumber at value) = ANumber 0 value
bare_argument (AName name) = AName (bare_name name)

abbrev pub bare_order : Order → Order
bare_order (CreateThere scheduler called arguments) = CreateThere (bare_name scheduler) (bare_name called) (map bare_argument arguments)
bare_order (ControlThere control thread scheduler) = ControlThere control (bare_name thread) (bare_name scheduler)
bare_order (BroadcastThere event value) = BroadcastThere (bare_event event) value

abbrev pub bare_declaration : Declaration → Declaration
bare_declaration (Scheduler name) = Scheduler (bare_name name)
bare_declaration (Event name scheduler) = Event (bare_name name) (bare_name scheduler)
bare_declaration (Shared name scheduler value) = Shared (bare_name name) (bare_name scheduler) value
bare_declaration (Module head locals body) = Module (bare_head head) (map bare_named locals) (bare_body body)
bare_declaration (Start scheduler called arguments name) = Start (bare_name scheduler) (bare_name called) (map bare_argument arguments) (option_map bare_name name)
bare_declaration (Outside name orders) = Outside (bare_name name) (map bare_order orders)

-- the program without its places
abbrev pub without_places : Source → Source
without_places p = map bare_declaration p
