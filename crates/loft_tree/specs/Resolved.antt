-- A program with numbers in place of names and without the offsets of its text: what runs (docs/SEMANTICS.md, "Machine").
use Rattle.std.specs.Prelude.{ℕ, ℤ, List, map, Option}
use Rattle.std.specs.Option.{option_map}
use Rattle.loft_base.specs.declared.ids.SchedId.{SchedId}
use Rattle.loft_base.specs.declared.ids.EventId.{EventId}
use Rattle.loft_base.specs.declared.ids.SharedId.{SharedId}
use Rattle.loft_base.specs.declared.ids.ModuleId.{ModuleId}
use Rattle.loft_tree.specs.declared.kinds.Builtin.{Builtin}
use Rattle.loft_tree.specs.declared.kinds.UnaryOperator.{UnaryOperator}
use Rattle.loft_tree.specs.declared.kinds.BinaryOperator.{BinaryOperator}
use Rattle.loft_tree.specs.declared.kinds.Control.{Control}
use Rattle.loft_tree.specs.declared.heads.Heads.{Heads}
use Rattle.loft_tree.specs.declared.named.Target.{Target as NamedTarget}
use Rattle.loft_tree.specs.declared.named.Target.TheVariants as named_target
use Rattle.loft_tree.specs.NamedTree as named
use Rattle.loft_tree.specs.NamedTree.{EventUse, NamedExpression, NamedAction, NamedPause, NamedStatement, NamedStatements, NamedProgram}

pub data Exp : Type 0 where
  Number : (value : ℤ) → Exp
  -- a parameter or local variable of the module
  Slot : (slot : ℕ) → Exp
  Shared : (shared : SharedId) → Exp
  Special : (builtin : Builtin) → Exp
  Unary : (operator : UnaryOperator) (operand : Exp) → Exp
  Binary : (operator : BinaryOperator) (left right : Exp) → Exp

-- a variable that is set
pub data Target : Type 0 where
  ToSlot : (slot : ℕ) → Target
  ToShared : (shared : SharedId) → Target

-- a statement that goes on at the next one at once, or ends its thread
pub data Action : Type 0 where
  Assign : (target : Target) (value : Exp) → Action
  -- a thread is made, and the variable is set to it, if there is one
  Make : (target : Option Target) (scheduler : SchedId) («module» : ModuleId) (arguments : List Exp) → Action
  PrintText : (line : List ℕ) (value : Option Exp) → Action
  PrintValue : (value : Exp) → Action
  Generate : (event : EventId) (value : Option Exp) → Action
  ControlThread : (control : Control) (thread : Exp) (scheduler : SchedId) → Action
  Broadcast : (event : EventId) (value : Option Exp) → Action

-- what a stop waits for, but for `run`
pub data Pause : Type 0 where
  Cooperate : (instants : Option Exp) → Pause
  -- one event of these: one for `await`, two or more for `select`
  Await : (events : List EventId) (limit : Option Exp) → Pause
  Get : (event : EventId) (index : Exp) (target : Target) → Pause
  Join : (thread : Exp) (limit : Option Exp) → Pause
  Link : (scheduler : SchedId) → Pause
  Unlink : Pause
  Halt : Pause

-- a statement, and the list of statements that a body is; a stop bears its number
mutual
  pub data Step : Type 0 where
    Do : (action : Action) → Step
    Hold : (stop : ℕ) (pause : Pause) → Step
    -- `run`
    Call : (stop : ℕ) («module» : ModuleId) (arguments : List Exp) → Step
    -- `if`
    Choose : (test : Exp) (first second : Body) → Step
    -- `while`
    Loop : (test : Exp) (body : Body) → Step
    -- `repeat`
    Times : (count : Exp) (body : Body) → Step

  pub data Body : Type 0 where
    Empty : Body
    Then : (s : Step) (rest : Body) → Body

-- what a program declares, and the body of each of its modules
pub record Resolved : Type 0 where
  pub heads : Heads
  pub bodies : List Body

-- ---- leaving the offsets out

abbrev pub exp_of : NamedExpression → Exp
exp_of (named.Number value) = Number value
exp_of (named.Slot slot) = Slot slot
exp_of (named.Shared at shared) = Shared shared
exp_of (named.Special builtin) = Special builtin
exp_of (named.Unary operator operand) = Unary operator (exp_of operand)
exp_of (named.Binary operator left right) = Binary operator (exp_of left) (exp_of right)

abbrev pub exp_if : Option NamedExpression → Option Exp
exp_if e = option_map exp_of e

abbrev pub exps_of : List NamedExpression → List Exp
exps_of es = map exp_of es

abbrev pub target_of : NamedTarget → Target
target_of (named_target.Slot slot) = ToSlot slot
target_of (named_target.Shared at shared) = ToShared shared

abbrev pub events_of : List EventUse → List EventId
events_of es = map (λ e. e.event) es

abbrev pub target_if : Option NamedTarget → Option Target
target_if t = option_map target_of t

abbrev pub action_of : NamedAction → Action
action_of (named.Assign target value) = Assign (target_of target) (exp_of value)
action_of (named.Make target creation) = Make (target_if target) creation.scheduler creation.module (exps_of creation.arguments)
action_of (named.PrintText line value) = PrintText line (exp_if value)
action_of (named.PrintValue value) = PrintValue (exp_of value)
action_of (named.Generate event value) = Generate event.event (exp_if value)
action_of (named.ControlThread control thread scheduler) = ControlThread control (exp_of thread) scheduler
action_of (named.Broadcast event value) = Broadcast event.event (exp_if value)

abbrev pub pause_of : NamedPause → Pause
pause_of (named.Cooperate instants) = Cooperate (exp_if instants)
pause_of (named.Await events limit) = Await (events_of events) (exp_if limit)
pause_of (named.Get event index target) = Get event.event (exp_of index) (target_of target)
pause_of (named.Join thread limit) = Join (exp_of thread) (exp_if limit)
pause_of (named.Link scheduler) = Link scheduler
pause_of named.Unlink = Unlink
pause_of named.Halt = Halt

abbrev mutual
  pub step_of : NamedStatement → Step
  step_of (named.Do at action) = Do (action_of action)
  step_of (named.Hold at stop pause) = Hold stop (pause_of pause)
  step_of (named.Run at stop called «module» arguments) = Call stop «module» (exps_of arguments)
  step_of (named.If at test first second) = Choose (exp_of test) (body_of first) (body_of second)
  step_of (named.While at test body) = Loop (exp_of test) (body_of body)
  step_of (named.Repeat at count body) = Times (exp_of count) (body_of body)

  pub body_of : NamedStatements → Body
  body_of named.Done = Empty
  body_of (named.Then first rest) = Then (step_of first) (body_of rest)

abbrev pub resolved_of : NamedProgram → Resolved
resolved_of n = record { heads = n.heads; bodies = map (λ m. body_of m.body) n.modules }
