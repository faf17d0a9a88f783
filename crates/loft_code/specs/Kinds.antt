-- Whether the operands of an operation have their kinds (docs/CODE.md, "Valid code").
use Rattle.std.specs.Prelude.{Bool, true, false, not, ◌&&◌, List, [], ◌∷◌, Option, Some, None, slice_get}
use Rattle.loft_tree.specs.declared.kinds.Kind.{Kind}
use Rattle.loft_tree.specs.declared.kinds.Kind.TheVariants.{Int, Thread}
use Rattle.loft_tree.specs.declared.heads.Signature.{Signature}
use Rattle.loft_tree.specs.declared.heads.Heads.{Heads}
use Rattle.loft_tree.specs.HeadsFit.{kinds_of}
use Rattle.loft_tree.specs.KindOf.{builtin_kind, compares}
use Rattle.loft_tree.specs.Resolved.{Exp, Number, Slot, Shared, Special, Unary, Binary, Target, ToSlot, ToShared, Action, Assign, Make, PrintText, PrintValue, Generate, ControlThread, Broadcast, Pause, Cooperate, Await, Get, Join, Link, Unlink, Halt}
use Rattle.loft_code.specs.Operations.{Operation, Do, Hold, Call, Branch, Enter, Count, Turn, Jump, End, Line}

abbrev pub same_kind : Kind → Kind → Bool
same_kind Int Int = true
same_kind Int Thread = false
same_kind Thread Int = false
same_kind Thread Thread = true

-- a slot that isn't there counts as an int
abbrev pub kind_or_int : Option Kind → Kind
kind_or_int None = Int
kind_or_int (Some kind) = kind

-- two operands: of one kind where the operator compares them, else ints
abbrev pub operands_agree : Bool → Kind → Kind → Bool
operands_agree true left right = same_kind left right
operands_agree false left right = same_kind left Int && same_kind right Int

-- the kinds of the slots of a module
module _ (slots : List Kind) where
  -- the result of an operator is an int
  abbrev pub kind_of : Exp → Kind
  kind_of (Number value) = Int
  kind_of (Slot slot) = kind_or_int (slice_get slots slot)
  kind_of (Shared shared) = Int
  kind_of (Special builtin) = builtin_kind builtin
  kind_of (Unary operator operand) = Int
  kind_of (Binary operator left right) = Int

  -- each operator in it has operands of its kinds
  abbrev pub agrees : Exp → Bool
  agrees (Number value) = true
  agrees (Slot slot) = true
  agrees (Shared shared) = true
  agrees (Special builtin) = true
  agrees (Unary operator operand) = agrees operand && same_kind (kind_of operand) Int
  agrees (Binary operator left right) = agrees left && agrees right && operands_agree (compares operator) (kind_of left) (kind_of right)

  -- an expression of this kind
  abbrev pub has_kind : Kind → Exp → Bool
  has_kind kind e = agrees e && same_kind (kind_of e) kind

  abbrev pub int_if : Option Exp → Bool
  int_if None = true
  int_if (Some e) = has_kind Int e

  abbrev pub agrees_if : Option Exp → Bool
  agrees_if None = true
  agrees_if (Some e) = agrees e

  -- as many arguments as parameters, each of its parameter's kind
  abbrev pub arguments_agree : List Kind → List Exp → Bool
  arguments_agree [] [] = true
  arguments_agree [] (e ∷ es) = false
  arguments_agree (kind ∷ kinds) [] = false
  arguments_agree (kind ∷ kinds) (e ∷ es) = has_kind kind e && arguments_agree kinds es

  abbrev pub call_agrees : Option Signature → List Exp → Bool
  call_agrees None es = false
  call_agrees (Some m) es = arguments_agree (kinds_of m.parameters) es

  abbrev pub target_kind : Target → Kind
  target_kind (ToSlot slot) = kind_or_int (slice_get slots slot)
  target_kind (ToShared shared) = Int

  -- what a new thread is assigned to
  abbrev pub thread_if : Option Target → Bool
  thread_if None = true
  thread_if (Some target) = same_kind (target_kind target) Thread

  abbrev pub action_agrees : Heads → Action → Bool
  action_agrees h (Assign target value) = has_kind (target_kind target) value
  action_agrees h (Make target scheduler m arguments) = thread_if target && call_agrees (slice_get h.modules m.0) arguments
  action_agrees h (PrintText line value) = agrees_if value
  action_agrees h (PrintValue value) = agrees value
  action_agrees h (Generate event value) = int_if value
  action_agrees h (ControlThread control thread scheduler) = has_kind Thread thread
  action_agrees h (Broadcast event value) = int_if value

  abbrev pub pause_agrees : Pause → Bool
  pause_agrees (Cooperate instants) = int_if instants
  pause_agrees (Await events limit) = int_if limit
  pause_agrees (Get event index target) = has_kind Int index && same_kind (target_kind target) Int
  pause_agrees (Join thread limit) = has_kind Thread thread && int_if limit
  pause_agrees (Link scheduler) = true
  pause_agrees Unlink = true
  pause_agrees Halt = true

  abbrev pub operation_agrees : Heads → Operation → Bool
  operation_agrees h (Do action) = action_agrees h action
  operation_agrees h (Hold k pause) = pause_agrees pause
  operation_agrees h (Call k m arguments) = call_agrees (slice_get h.modules m.0) arguments
  operation_agrees h (Branch t test) = has_kind Int test
  operation_agrees h Enter = true
  operation_agrees h (Count count) = has_kind Int count
  operation_agrees h (Turn t) = true
  operation_agrees h (Jump t) = true
  operation_agrees h End = true

-- an operand has the wrong kind, or arguments don't agree with the module's parameters
abbrev pub has_bad_kind : Heads → List Kind → Line → Bool
has_bad_kind h slots l = not (operation_agrees slots h l.operation)
