-- Code that keeps the limits of a listing (docs/CODE.md, "Limits").
use Rattle.std.specs.Prelude.{◌≡◌, ◌≤◌, List, length, IsTrue}
use Rattle.loft_lex.specs.Fits.{is_text}
use Rattle.loft_tree.specs.declared.limits.TheConstants.{MAX_OPERANDS, MAX_NESTING}
use Rattle.loft_tree.specs.declared.heads.Start.{Start}
use Rattle.loft_tree.specs.declared.heads.ClientOrder.{ClientOrder}
use Rattle.loft_tree.specs.declared.heads.ClientOrder.TheVariants as order
use Rattle.loft_tree.specs.declared.heads.Client.{Client}
use Rattle.loft_tree.specs.declared.heads.Heads.{Heads}
use Rattle.loft_tree.specs.Fits.{Each, IfThere, NumberFits}
use Rattle.loft_tree.specs.HeadsFit.{HeadsFit}
use Rattle.loft_tree.specs.Levels.{Shape, Operand, Signed, Joined, shape_nesting, shape_operands}
use Rattle.loft_tree.specs.NamedFits.{HeadsWithinLimits, NamesDiffer}
use Rattle.loft_tree.specs.Resolved.{Exp, Number, Slot, Shared, Special, Unary, Binary, Action, Assign, Make, PrintText, PrintValue, Generate, ControlThread, Broadcast, Pause, Cooperate, Await, Get, Join, Link, Unlink, Halt}
use Rattle.loft_code.specs.declared.limits.TheConstants.{MAX_OPERATIONS}
use Rattle.loft_code.specs.Operations.{Operation, Do, Hold, Call, Branch, Enter, Count, Turn, Jump, End, Line, Automata}

-- ---- what a listing declares

-- a thread that the source starts can begin where it is made, and so can one that a client makes
abbrev pub StartFits : Heads → Start → Type 0
StartFits h t = HeadsFit h t.scheduler t.module t.arguments

abbrev pub ClientOrderFits : Heads → ClientOrder → Type 0
ClientOrderFits h (order.Create scheduler m arguments) = HeadsFit h scheduler m arguments
ClientOrderFits h o = Unit {0}

abbrev pub ClientFits : Heads → Client → Type 0
ClientFits h c = Each (ClientOrderFits h) c.orders

-- A listing may have no scheduler.
pub record HeadsKeep (h : Heads) : Type 0 where
  pub within : HeadsWithinLimits h
  pub names : NamesDiffer h
  -- threads begin in the scheduler in which they are made
  pub starts_fit : Each (StartFits h) h.starts
  pub clients_fit : Each (ClientFits h) h.clients

-- ---- operations

abbrev pub shape_of : Exp → Shape
shape_of (Number value) = Operand
shape_of (Slot slot) = Operand
shape_of (Shared shared) = Operand
shape_of (Special builtin) = Operand
shape_of (Unary operator operand) = Signed (shape_of operand)
shape_of (Binary operator left right) = Joined operator (shape_of left) (shape_of right)

-- the numbers of an expression can be written
abbrev pub NumbersFit : Exp → Type 0
NumbersFit (Number value) = NumberFits value
NumbersFit (Unary operator operand) = NumbersFit operand
NumbersFit (Binary operator left right) = NumbersFit left × NumbersFit right
NumbersFit e = Unit {0}

-- the nesting is counted in each expression alone
pub record ExpFits (e : Exp) : Type 0 where
  pub numbers : NumbersFit e
  pub nests : shape_nesting (shape_of e) ≤ MAX_NESTING
  pub few : shape_operands (shape_of e) ≤ MAX_OPERANDS

abbrev pub ActionFits : Action → Type 0
ActionFits (Assign target value) = ExpFits value
ActionFits (Make target scheduler m arguments) = Each ExpFits arguments
ActionFits (PrintText line value) = IsTrue (is_text line) × IfThere ExpFits value
ActionFits (PrintValue value) = ExpFits value
ActionFits (Generate event value) = IfThere ExpFits value
ActionFits (ControlThread control thread scheduler) = ExpFits thread
ActionFits (Broadcast event value) = IfThere ExpFits value

abbrev pub PauseFits : Pause → Type 0
PauseFits (Cooperate instants) = IfThere ExpFits instants
PauseFits (Await events limit) = IfThere ExpFits limit
PauseFits (Get event index target) = ExpFits index
PauseFits (Join thread limit) = ExpFits thread × IfThere ExpFits limit
PauseFits (Link scheduler) = Unit {0}
PauseFits Unlink = Unit {0}
PauseFits Halt = Unit {0}

abbrev pub OperationFits : Operation → Type 0
OperationFits (Do action) = ActionFits action
OperationFits (Hold k pause) = PauseFits pause
OperationFits (Call k m arguments) = Each ExpFits arguments
OperationFits (Branch t test) = ExpFits test
OperationFits Enter = Unit {0}
OperationFits (Count count) = ExpFits count
OperationFits (Turn t) = Unit {0}
OperationFits (Jump t) = Unit {0}
OperationFits End = Unit {0}

abbrev pub LineFits : Line → Type 0
LineFits l = OperationFits l.operation

-- few enough operations
abbrev pub AreFew : List Line → Type 0
AreFew lines = length lines ≤ MAX_OPERATIONS

pub record LinesFit (lines : List Line) : Type 0 where
  pub each : Each LineFits lines
  pub few : AreFew lines

-- as many lists of operations as modules are declared
pub record RawFits (c : Automata) : Type 0 where
  pub heads : HeadsKeep c.heads
  pub all_modules : length c.modules ≡ length c.heads.modules
  pub each : Each LinesFit c.modules
