-- What a statement with numbers in memory is as a plain value.
use Rattle.std.specs.Prelude.{List, [], ◌∷◌, map, Option}
use Rattle.std.specs.Option.{option_map}
use Rattle.loft_tree.specs.NamedTree as named
use Rattle.loft_tree.specs.NamedTree.{EventUse, NamedExpression, Number, Slot, Shared, Special, Unary, Binary, NamedCreation, NamedAction, NamedPause, NamedStatement, Do, Hold, Run, If, While, Repeat, NamedStatements, Done, Then}
use Rattle.loft_tree.specs.declared.named.NamedExpr.{NamedExpr}
use Rattle.loft_tree.specs.declared.named.NamedExpr as term
use Rattle.loft_tree.specs.declared.named.EventUse.{EventUse as EventUseInMemory}
use Rattle.loft_tree.specs.declared.named.NamedCreation.{NamedCreation as CreationInMemory}
use Rattle.loft_tree.specs.declared.action.Action.{Action}
use Rattle.loft_tree.specs.declared.action.Action.TheVariants as action
use Rattle.loft_tree.specs.declared.action.Pause.{Pause}
use Rattle.loft_tree.specs.declared.action.Pause.TheVariants as pause
use Rattle.loft_tree.specs.declared.named.NamedStmt.{NamedStmt}
use Rattle.loft_tree.specs.declared.named.NamedStmt.TheOpen as layer
use Rattle.loft_tree.specs.declared.named.NamedStmt.TheOpen.{NamedStmt-F}
use Rattle.loft_tree.specs.declared.named.NamedStmt.TheFolds.{fold-NamedStmt}

abbrev pub term_of : NamedExpr → NamedExpression
term_of (term.Number value) = Number value
term_of (term.Slot slot) = Slot slot
term_of (term.Shared at shared) = Shared at shared
term_of (term.Builtin builtin) = Special builtin
term_of (term.Unary' operator p operand) = Unary operator (term_of operand)
term_of (term.Binary' operator p left q right) = Binary operator (term_of left) (term_of right)

abbrev pub value_of : Option NamedExpr → Option NamedExpression
value_of e = option_map term_of e

abbrev pub event_use_of : EventUseInMemory → EventUse
event_use_of e = record { at = e.at; event = e.event }

abbrev pub creation_of : CreationInMemory → NamedCreation
creation_of m = record { at = m.at; scheduler = m.scheduler; «module» = m.«module»; arguments = map term_of m.arguments.items }

abbrev pub action_of : Action → NamedAction
action_of (action.Assign target value) = named.Assign target (term_of value)
action_of (action.Make target creation) = named.Make target (creation_of creation)
action_of (action.PrintText text value) = named.PrintText text (value_of value)
action_of (action.PrintValue value) = named.PrintValue (term_of value)
action_of (action.Generate event value) = named.Generate (event_use_of event) (value_of value)
action_of (action.Control control thread scheduler) = named.ControlThread control (term_of thread) scheduler
action_of (action.Broadcast event value) = named.Broadcast (event_use_of event) (value_of value)

abbrev pub pause_of : Pause → NamedPause
pause_of (pause.Cooperate instants) = named.Cooperate (value_of instants)
pause_of (pause.Await events limit) = named.Await (map event_use_of events.items) (value_of limit)
pause_of (pause.Get event index target) = named.Get (event_use_of event) (term_of index) target
pause_of (pause.Join thread limit) = named.Join (term_of thread) (value_of limit)
pause_of (pause.Link scheduler) = named.Link scheduler
pause_of pause.Unlink = named.Unlink
pause_of pause.Halt = named.Halt

-- a list of statements as a body
abbrev pub body_of : List NamedStatement → NamedStatements
body_of [] = Done
body_of (s ∷ ss) = Then s (body_of ss)

-- one statement, where those in its bodies are plain values already
abbrev pub statement_layer : NamedStmt-F NamedStatement → NamedStatement
statement_layer (layer.Do at action) = Do at (action_of action)
statement_layer (layer.Hold at stop pause) = Hold at stop (pause_of pause)
statement_layer (layer.Run at stop called «module» arguments) = Run at stop called «module» (map term_of arguments.items)
statement_layer (layer.If at test first second) = If at (term_of test) (body_of first.items) (body_of second.items)
statement_layer (layer.While at test body) = While at (term_of test) (body_of body.items)
statement_layer (layer.Repeat at count body) = Repeat at (term_of count) (body_of body.items)

abbrev pub statement_of : NamedStmt → NamedStatement
statement_of = fold-NamedStmt NamedStatement statement_layer

abbrev pub statements_of : List NamedStmt → NamedStatements
statements_of ss = body_of (map statement_of ss)
