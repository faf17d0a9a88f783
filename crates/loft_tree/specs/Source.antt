-- Programs as plain values: what a source text says, without where it lies in memory (docs/LANGUAGE.md, "Programs").
use Rattle.std.specs.Prelude.{ℕ, ℤ, List, Option}
use Rattle.loft_tree.specs.declared.kinds.Kind.{Kind}
use Rattle.loft_tree.specs.declared.kinds.Builtin.{Builtin}
use Rattle.loft_tree.specs.declared.kinds.UnaryOperator.{UnaryOperator}
use Rattle.loft_tree.specs.declared.kinds.BinaryOperator.{BinaryOperator}
use Rattle.loft_tree.specs.declared.kinds.Control.{Control}

-- a name in a source, and the byte where it begins
pub record Ident : Type 0 where
  pub text : List ℕ
  pub at : ℕ

-- an event that a statement or an order names
pub record EventName : Type 0 where
  pub name : Ident

-- An expression. `at` is the byte where its token begins; brackets aren't kept.
pub data Expression : Type 0 where
  Number : (at : ℕ) (value : ℤ) → Expression
  Variable : (name : Ident) → Expression
  Special : (at : ℕ) (builtin : Builtin) → Expression
  Unary : (at : ℕ) (operator : UnaryOperator) (operand : Expression) → Expression
  Binary : (operator : BinaryOperator) (left right : Expression) → Expression

-- a thread to be made in the scheduler, of the module called so
pub record Creation : Type 0 where
  pub scheduler : Ident
  pub called : Ident
  pub arguments : List Expression

-- A statement; `at` is the byte where its word begins.
mutual
  pub data Statement : Type 0 where
    Assign : (target : Ident) (value : Expression) → Statement
    AssignCreate : (target : Ident) (at : ℕ) (creation : Creation) → Statement
    Create : (at : ℕ) (creation : Creation) → Statement
    PrintText : (at : ℕ) (line : List ℕ) (value : Option Expression) → Statement
    PrintValue : (at : ℕ) (value : Expression) → Statement
    Cooperate : (at : ℕ) (instants : Option Expression) → Statement
    Generate : (at : ℕ) (event : EventName) (value : Option Expression) → Statement
    Await : (at : ℕ) (event : EventName) (limit : Option Expression) → Statement
    Select : (at : ℕ) (events : List EventName) (limit : Option Expression) → Statement
    Get : (at : ℕ) (event : EventName) (index : Expression) (target : Ident) → Statement
    Join : (at : ℕ) (thread : Expression) (limit : Option Expression) → Statement
    ControlThread : (at : ℕ) (control : Control) (thread : Expression) (scheduler : Ident) → Statement
    Broadcast : (at : ℕ) (event : EventName) (value : Option Expression) → Statement
    Link : (at : ℕ) (scheduler : Ident) → Statement
    Unlink : (at : ℕ) → Statement
    Run : (at : ℕ) (called : Ident) (arguments : List Expression) → Statement
    Halt : (at : ℕ) → Statement
    If : (at : ℕ) (test : Expression) (first second : Statements) → Statement
    While : (at : ℕ) (test : Expression) (body : Statements) → Statement
    Repeat : (at : ℕ) (count : Expression) (body : Statements) → Statement

  -- statements in order
  pub data Statements : Type 0 where
    Done : Statements
    Then : (first : Statement) (rest : Statements) → Statements

-- a parameter or a local variable
pub record Named : Type 0 where
  pub kind : Kind
  pub name : Ident

-- where a thread is linked
pub data PlaceName : Type 0 where
  InScheduler : (name : Ident) → PlaceName
  Unlinked : PlaceName

-- the line of a module up to its local variables; `end` is where its threads end, if that isn't where they begin
pub record ModuleHead : Type 0 where
  pub name : Ident
  pub parameters : List Named
  pub begin : PlaceName
  pub end : Option PlaceName

-- an argument outside module bodies: a number, or the thread that a start names so
pub data Argument : Type 0 where
  ANumber : (at : ℕ) (value : ℤ) → Argument
  AName : (name : Ident) → Argument

-- what an outside client orders
pub data Order : Type 0 where
  CreateThere : (scheduler called : Ident) (arguments : List Argument) → Order
  ControlThere : (control : Control) (thread scheduler : Ident) → Order
  BroadcastThere : (event : EventName) (value : Option ℤ) → Order

pub data Declaration : Type 0 where
  Scheduler : (name : Ident) → Declaration
  Event : (name scheduler : Ident) → Declaration
  Shared : (name scheduler : Ident) (value : ℤ) → Declaration
  Module : (head : ModuleHead) (locals : List Named) (body : Statements) → Declaration
  Start : (scheduler called : Ident) (arguments : List Argument) (name : Option Ident) → Declaration
  Outside : (name : Ident) (orders : List Order) → Declaration

-- a program is its declarations, in the order of the text
abbrev pub Source : Type 0
Source = List Declaration
