-- What a program in memory is as a plain value.
use Rattle.std.specs.Prelude.{List, [], ◌∷◌, map, Option}
use Rattle.std.specs.Option.{option_map}
use Rattle.loft_tree.specs.Source.{EventName, Expression, Number, Variable, Special, Unary, Binary, Creation, Statement, Assign, AssignCreate, Create, PrintText, PrintValue, Cooperate, Generate, Await, Select, Get, Join, ControlThread, Broadcast, Link, Unlink, Run, Halt, If, While, Repeat, Statements, Done, Then, Named, PlaceName, InScheduler, Unlinked, ModuleHead, Argument, ANumber, AName, Order, CreateThere, ControlThere, BroadcastThere, Declaration, Scheduler, Event, Shared, Module, Start, Outside, Source}
use Rattle.loft_tree.specs.declared.expression.Expr.{Expr}
use Rattle.loft_tree.specs.declared.expression.Expr as expr
use Rattle.loft_tree.specs.declared.statement.EventName.{EventName as EventNameInMemory}
use Rattle.loft_tree.specs.declared.statement.Creation.{Creation as CreationInMemory}
use Rattle.loft_tree.specs.declared.statement.Stmt.{Stmt}
use Rattle.loft_tree.specs.declared.statement.Stmt.TheOpen as layer
use Rattle.loft_tree.specs.declared.statement.Stmt.TheOpen.{Stmt-F}
use Rattle.loft_tree.specs.declared.statement.Stmt.TheFolds.{fold-Stmt}
use Rattle.loft_tree.specs.declared.program.Variable.{Variable as VariableInMemory}
use Rattle.loft_tree.specs.declared.program.PlaceName.{PlaceName as PlaceNameInMemory}
use Rattle.loft_tree.specs.declared.program.PlaceName.TheVariants as place
use Rattle.loft_tree.specs.declared.program.ModuleHead.{ModuleHead as ModuleHeadInMemory}
use Rattle.loft_tree.specs.declared.program.Argument.{Argument as ArgumentInMemory}
use Rattle.loft_tree.specs.declared.program.Argument.TheVariants as argument
use Rattle.loft_tree.specs.declared.program.OutsideOrder.{OutsideOrder as OrderInMemory}
use Rattle.loft_tree.specs.declared.program.OutsideOrder.TheVariants as order
use Rattle.loft_tree.specs.declared.program.Item.{Item}
use Rattle.loft_tree.specs.declared.program.Item.TheVariants as item

abbrev pub expression_of : Expr → Expression
expression_of (expr.Number at value) = Number at value
expression_of (expr.Name name) = Variable name
expression_of (expr.Builtin at builtin) = Special at builtin
expression_of (expr.Unary' at operator p operand) = Unary at operator (expression_of operand)
expression_of (expr.Binary' operator p left q right) = Binary operator (expression_of left) (expression_of right)

abbrev pub value_of : Option Expr → Option Expression
value_of e = option_map expression_of e

abbrev pub event_name_of : EventNameInMemory → EventName
event_name_of e = record { name = e.name }

abbrev pub creation_of : CreationInMemory → Creation
creation_of c = record { scheduler = c.scheduler; called = c.called; arguments = map expression_of c.arguments.items }

-- a list of statements as a body
abbrev pub body_of : List Statement → Statements
body_of [] = Done
body_of (s ∷ ss) = Then s (body_of ss)

-- one statement, where those in its bodies are plain values already
abbrev pub statement_layer : Stmt-F Statement → Statement
statement_layer (layer.Assign target value) = Assign target (expression_of value)
statement_layer (layer.AssignCreate target at creation) = AssignCreate target at (creation_of creation)
statement_layer (layer.Create at creation) = Create at (creation_of creation)
statement_layer (layer.PrintText at line value) = PrintText at line (value_of value)
statement_layer (layer.PrintValue at value) = PrintValue at (expression_of value)
statement_layer (layer.Cooperate at instants) = Cooperate at (value_of instants)
statement_layer (layer.Generate at event value) = Generate at (event_name_of event) (value_of value)
statement_layer (layer.Await at event limit) = Await at (event_name_of event) (value_of limit)
statement_layer (layer.Select at events limit) = Select at (map event_name_of events.items) (value_of limit)
statement_layer (layer.Get at event index target) = Get at (event_name_of event) (expression_of index) target
statement_layer (layer.Join at thread limit) = Join at (expression_of thread) (value_of limit)
statement_layer (layer.Control at control thread scheduler) = ControlThread at control (expression_of thread) scheduler
statement_layer (layer.Broadcast at event value) = Broadcast at (event_name_of event) (value_of value)
statement_layer (layer.Link at scheduler) = Link at scheduler
statement_layer (layer.Unlink at) = Unlink at
statement_layer (layer.Run at called arguments) = Run at called (map expression_of arguments.items)
statement_layer (layer.Halt at) = Halt at
statement_layer (layer.If at test first second) = If at (expression_of test) (body_of first.items) (body_of second.items)
statement_layer (layer.While at test body) = While at (expression_of test) (body_of body.items)
statement_layer (layer.Repeat at count body) = Repeat at (expression_of count) (body_of body.items)

abbrev pub statement_of : Stmt → Statement
statement_of = fold-Stmt Statement statement_layer

abbrev pub statements_of : List Stmt → Statements
statements_of ss = body_of (map statement_of ss)

abbrev pub named_of : VariableInMemory → Named
named_of v = record { kind = v.kind; name = v.name }

abbrev pub place_name_of : PlaceNameInMemory → PlaceName
place_name_of (place.Scheduler name) = InScheduler name
place_name_of place.Unlinked = Unlinked

abbrev pub head_of : ModuleHeadInMemory → ModuleHead
head_of h = record {
  name = h.name;
  parameters = map named_of h.parameters.items;
  begin = place_name_of h.begin;
  end = option_map place_name_of h.end;
}

abbrev pub argument_of : ArgumentInMemory → Argument
argument_of (argument.Number at value) = ANumber at value
argument_of (argument.Name name) = AName name

abbrev pub order_of : OrderInMemory → Order
order_of (order.Create scheduler called arguments) = CreateThere scheduler called (map argument_of arguments.items)
order_of (order.Control control thread scheduler) = ControlThere control thread scheduler
order_of (order.Broadcast event value) = BroadcastThere (event_name_of event) value

abbrev pub declaration_of : Item → Declaration
declaration_of (item.Scheduler name) = Scheduler name
declaration_of (item.Event name scheduler) = Event name scheduler
declaration_of (item.Shared name scheduler value) = Shared name scheduler value
declaration_of (item.Module head locals body) = Module (head_of head) (map named_of locals.items) (statements_of body.items)
declaration_of (item.Start scheduler called arguments name) = Start scheduler called (map argument_of arguments.items) name
declaration_of (item.Outside name orders) = Outside name (map order_of orders.items)

abbrev pub source_of : List Item → Source
source_of items = map declaration_of items
