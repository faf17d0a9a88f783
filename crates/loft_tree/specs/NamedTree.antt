-- Programs with numbers in place of names, as plain values (docs/LANGUAGE.md, "Numbers of names").
use Rattle.std.specs.Prelude.{ℕ, ℤ, List, Option}
use Rattle.loft_base.specs.declared.ids.SchedId.{SchedId}
use Rattle.loft_base.specs.declared.ids.EventId.{EventId}
use Rattle.loft_base.specs.declared.ids.SharedId.{SharedId}
use Rattle.loft_base.specs.declared.ids.ModuleId.{ModuleId}
use Rattle.loft_tree.specs.declared.kinds.Builtin.{Builtin}
use Rattle.loft_tree.specs.declared.kinds.UnaryOperator.{UnaryOperator}
use Rattle.loft_tree.specs.declared.kinds.BinaryOperator.{BinaryOperator}
use Rattle.loft_tree.specs.declared.kinds.Control.{Control}
use Rattle.loft_tree.specs.declared.heads.Heads.{Heads}
use Rattle.loft_tree.specs.declared.named.Target.{Target}
use Rattle.loft_tree.specs.declared.named.LinkItem.{LinkItem}

-- an expression; the parameters and local variables of a module are its slots
pub data NamedExpression : Type 0 where
  Number : (value : ℤ) → NamedExpression
  Slot : (slot : ℕ) → NamedExpression
  Shared : (at : ℕ) (shared : SharedId) → NamedExpression
  Special : (builtin : Builtin) → NamedExpression
  Unary : (operator : UnaryOperator) (operand : NamedExpression) → NamedExpression
  Binary : (operator : BinaryOperator) (left right : NamedExpression) → NamedExpression

-- an event that a statement names, and the offset of its name
pub record EventUse : Type 0 where
  pub at : ℕ
  pub event : EventId

-- a thread to be made in the scheduler, whose name stands at this offset
pub record NamedCreation : Type 0 where
  pub at : ℕ
  pub scheduler : SchedId
  pub «module» : ModuleId
  pub arguments : List NamedExpression

-- what a statement does that goes on at the next one at once, or ends its thread
pub data NamedAction : Type 0 where
  Assign : (target : Target) (value : NamedExpression) → NamedAction
  -- a thread is made, and the variable is set to it, if there is one
  Make : (target : Option Target) (creation : NamedCreation) → NamedAction
  PrintText : (line : List ℕ) (value : Option NamedExpression) → NamedAction
  PrintValue : (value : NamedExpression) → NamedAction
  Generate : (event : EventUse) (value : Option NamedExpression) → NamedAction
  ControlThread : (control : Control) (thread : NamedExpression) (scheduler : SchedId) → NamedAction
  Broadcast : (event : EventUse) (value : Option NamedExpression) → NamedAction

-- what a stop waits for, but for `run`
pub data NamedPause : Type 0 where
  Cooperate : (instants : Option NamedExpression) → NamedPause
  -- one event of these: one for `await`, two or more for `select`
  Await : (events : List EventUse) (limit : Option NamedExpression) → NamedPause
  Get : (event : EventUse) (index : NamedExpression) (target : Target) → NamedPause
  Join : (thread : NamedExpression) (limit : Option NamedExpression) → NamedPause
  Link : (scheduler : SchedId) → NamedPause
  Unlink : NamedPause
  Halt : NamedPause

-- A statement: it does an action, holds at a stop, runs a module, or has bodies. `at` is the offset of its word, or of the
-- variable of an assignment without a `create`; a stop bears its number.
mutual
  pub data NamedStatement : Type 0 where
    Do : (at : ℕ) (action : NamedAction) → NamedStatement
    Hold : (at stop : ℕ) (pause : NamedPause) → NamedStatement
    Run : (at stop called : ℕ) («module» : ModuleId) (arguments : List NamedExpression) → NamedStatement
    If : (at : ℕ) (test : NamedExpression) (first second : NamedStatements) → NamedStatement
    While : (at : ℕ) (test : NamedExpression) (body : NamedStatements) → NamedStatement
    Repeat : (at : ℕ) (count : NamedExpression) (body : NamedStatements) → NamedStatement

  -- statements in order
  pub data NamedStatements : Type 0 where
    Done : NamedStatements
    Then : (first : NamedStatement) (rest : NamedStatements) → NamedStatements

-- a module: the offset of its name, and its body
pub record NamedModule : Type 0 where
  pub at : ℕ
  pub body : NamedStatements

-- what a program declares, its modules by their numbers, and its modules, starts and clients' creates in text order
pub record NamedProgram : Type 0 where
  pub heads : Heads
  pub modules : List NamedModule
  pub links : List LinkItem
