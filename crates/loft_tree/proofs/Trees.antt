-- What each statement in memory is as a plain value.
use Rattle.std.proofs.Common.{◌≡◌, ℕ, List, Option, map, ap, sym, ◌∙◌}
use Rattle.std.specs.Global.{Vec}
use Rattle.loft_tree.specs.declared.kinds.Control.{Control}
use Rattle.loft_tree.specs.declared.expression.Expr.{Expr}
use Rattle.loft_tree.specs.declared.statement.Creation.{Creation}
use Rattle.loft_tree.specs.declared.statement.EventName.{EventName}
use Rattle.loft_tree.specs.declared.statement.Stmt.{Stmt}
use Rattle.loft_tree.specs.declared.statement.Stmt.TheOpen as layer
use Rattle.loft_tree.specs.declared.statement.Stmt.TheVariants as stmt
use Rattle.loft_tree.specs.declared.statement.Stmt.TheFolds.{fold-roll-Stmt}
use Rattle.loft_tree.specs.Source.{Ident, Statement, Assign, AssignCreate, Create, PrintText, PrintValue, Cooperate, Generate, Await, Select, Get, Join, ControlThread, Broadcast, Link, Unlink, Run, Halt, If, While, Repeat}
use Rattle.loft_tree.specs.View.{expression_of, value_of, event_name_of, creation_of, statement_layer, statement_of, statements_of}

pub statement_assign : (target : Ident) (value : Expr) → statement_of (stmt.Assign target value) ≡ Assign target (expression_of value)
statement_assign target value = ap statement_of (sym (stmt.rolls-Assign target value)) ∙ fold-roll-Stmt Statement statement_layer (layer.Assign target value)

pub statement_assign_create : (target : Ident) (at : ℕ) (creation : Creation) → statement_of (stmt.AssignCreate target at creation) ≡ AssignCreate target at (creation_of creation)
statement_assign_create target at creation = ap statement_of (sym (stmt.rolls-AssignCreate target at creation)) ∙ fold-roll-Stmt Statement statement_layer (layer.AssignCreate target at creation)

pub statement_create : (at : ℕ) (creation : Creation) → statement_of (stmt.Create at creation) ≡ Create at (creation_of creation)
statement_create at creation = ap statement_of (sym (stmt.rolls-Create at creation)) ∙ fold-roll-Stmt Statement statement_layer (layer.Create at creation)

pub statement_print_text : (at : ℕ) (line : List ℕ) (value : Option Expr) → statement_of (stmt.PrintText at line value) ≡ PrintText at line (value_of value)
statement_print_text at line value = ap statement_of (sym (stmt.rolls-PrintText at line value)) ∙ fold-roll-Stmt Statement statement_layer (layer.PrintText at line value)

pub statement_print_value : (at : ℕ) (value : Expr) → statement_of (stmt.PrintValue at value) ≡ PrintValue at (expression_of value)
statement_print_value at value = ap statement_of (sym (stmt.rolls-PrintValue at value)) ∙ fold-roll-Stmt Statement statement_layer (layer.PrintValue at value)

pub statement_cooperate : (at : ℕ) (instants : Option Expr) → statement_of (stmt.Cooperate at instants) ≡ Cooperate at (value_of instants)
statement_cooperate at instants = ap statement_of (sym (stmt.rolls-Cooperate at instants)) ∙ fold-roll-Stmt Statement statement_layer (layer.Cooperate at instants)

pub statement_generate : (at : ℕ) (event : EventName) (value : Option Expr) → statement_of (stmt.Generate at event value) ≡ Generate at (event_name_of event) (value_of value)
statement_generate at event value = ap statement_of (sym (stmt.rolls-Generate at event value)) ∙ fold-roll-Stmt Statement statement_layer (layer.Generate at event value)

pub statement_await : (at : ℕ) (event : EventName) (limit : Option Expr) → statement_of (stmt.Await at event limit) ≡ Await at (event_name_of event) (value_of limit)
statement_await at event limit = ap statement_of (sym (stmt.rolls-Await at event limit)) ∙ fold-roll-Stmt Statement statement_layer (layer.Await at event limit)

pub statement_select : (at : ℕ) (events : Vec EventName) (limit : Option Expr) → statement_of (stmt.Select at events limit) ≡ Select at (map event_name_of events.items) (value_of limit)
statement_select at events limit = ap statement_of (sym (stmt.rolls-Select at events limit)) ∙ fold-roll-Stmt Statement statement_layer (layer.Select at events limit)

pub statement_get : (at : ℕ) (event : EventName) (index : Expr) (target : Ident) → statement_of (stmt.Get at event index target) ≡ Get at (event_name_of event) (expression_of index) target
statement_get at event index target = ap statement_of (sym (stmt.rolls-Get at event index target)) ∙ fold-roll-Stmt Statement statement_layer (layer.Get at event index target)

pub statement_join : (at : ℕ) (thread : Expr) (limit : Option Expr) → statement_of (stmt.Join at thread limit) ≡ Join at (expression_of thread) (value_of limit)
statement_join at thread limit = ap statement_of (sym (stmt.rolls-Join at thread limit)) ∙ fold-roll-Stmt Statement statement_layer (layer.Join at thread limit)

pub statement_control : (at : ℕ) (control : Control) (thread : Expr) (scheduler : Ident) → statement_of (stmt.Control at control thread scheduler) ≡ ControlThread at control (expression_of thread) scheduler
statement_control at control thread scheduler = ap statement_of (sym (stmt.rolls-Control at control thread scheduler)) ∙ fold-roll-Stmt Statement statement_layer (layer.Control at control thread scheduler)

pub statement_broadcast : (at : ℕ) (event : EventName) (value : Option Expr) → statement_of (stmt.Broadcast at event value) ≡ Broadcast at (event_name_of event) (value_of value)
statement_broadcast at event value = ap statement_of (sym (stmt.rolls-Broadcast at event value)) ∙ fold-roll-Stmt Statement statement_layer (layer.Broadcast at event value)

pub statement_link : (at : ℕ) (scheduler : Ident) → statement_of (stmt.Link at scheduler) ≡ Link at scheduler
statement_link at scheduler = ap statement_of (sym (stmt.rolls-Link at scheduler)) ∙ fold-roll-Stmt Statement statement_layer (layer.Link at scheduler)

pub statement_unlink : (at : ℕ) → statement_of (stmt.Unlink at) ≡ Unlink at
statement_unlink at = ap statement_of (sym (stmt.rolls-Unlink at)) ∙ fold-roll-Stmt Statement statement_layer (layer.Unlink at)

pub statement_run : (at : ℕ) (called : Ident) (arguments : Vec Expr) → statement_of (stmt.Run at called arguments) ≡ Run at called (map expression_of arguments.items)
statement_run at called arguments = ap statement_of (sym (stmt.rolls-Run at called arguments)) ∙ fold-roll-Stmt Statement statement_layer (layer.Run at called arguments)

pub statement_halt : (at : ℕ) → statement_of (stmt.Halt at) ≡ Halt at
statement_halt at = ap statement_of (sym (stmt.rolls-Halt at)) ∙ fold-roll-Stmt Statement statement_layer (layer.Halt at)

pub statement_if : (at : ℕ) (test : Expr) (first second : Vec Stmt) → statement_of (stmt.If at test first second) ≡ If at (expression_of test) (statements_of first.items) (statements_of second.items)
statement_if at test first second = ap statement_of (sym (stmt.rolls-If at test first second)) ∙ fold-roll-Stmt Statement statement_layer (layer.If at test first second)

pub statement_while : (at : ℕ) (test : Expr) (body : Vec Stmt) → statement_of (stmt.While at test body) ≡ While at (expression_of test) (statements_of body.items)
statement_while at test body = ap statement_of (sym (stmt.rolls-While at test body)) ∙ fold-roll-Stmt Statement statement_layer (layer.While at test body)

pub statement_repeat : (at : ℕ) (count : Expr) (body : Vec Stmt) → statement_of (stmt.Repeat at count body) ≡ Repeat at (expression_of count) (statements_of body.items)
statement_repeat at count body = ap statement_of (sym (stmt.rolls-Repeat at count body)) ∙ fold-roll-Stmt Statement statement_layer (layer.Repeat at count body)

-- for the functions that make statements
pub ruleset statements = (statement_assign, statement_assign_create, statement_create, statement_print_text, statement_print_value, statement_cooperate, statement_generate, statement_await, statement_select, statement_get, statement_join, statement_control, statement_broadcast, statement_link, statement_unlink, statement_run, statement_halt, statement_if, statement_while, statement_repeat)
