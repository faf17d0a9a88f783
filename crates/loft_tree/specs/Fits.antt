-- Programs that keep the limits of the language (docs/LANGUAGE.md, "Limits").
use Rattle.std.specs.Prelude.{◌≡◌, ℕ, ◌+◌, ◌≤◌, ℤ, pos, ◌-ℤ◌, ◌⊎◌, Bool, true, false, IsTrue, List, [], ◌∷◌, length, Option, Some, None}
use Rattle.std.specs.Str.{bytes_eq}
use Rattle.std.specs.List.{count_by}
use Rattle.loft_lex.specs.Bytes.{max_number}
use Rattle.loft_lex.specs.Fits.{is_name, is_text}
use Rattle.loft_tree.specs.declared.limits.TheConstants.{MAX_SCHEDULERS, MAX_EVENTS, MAX_SHARED, MAX_MODULES, MAX_STARTS, MAX_CLIENTS, MAX_ORDERS, MAX_PARAMETERS, MAX_LOCALS, MAX_STATEMENTS, MAX_OPERANDS, MAX_ARGUMENTS, MAX_CHOICES, MAX_NESTING}
use Rattle.loft_tree.specs.Levels.{nesting, operands}
use Rattle.loft_tree.specs.Source.{Ident, EventName, Expression, Number, Variable, Special, Unary, Binary, Creation, Statement, Assign, AssignCreate, Create, PrintText, PrintValue, Cooperate, Generate, Await, Select, Get, Join, ControlThread, Broadcast, Link, Unlink, Run, Halt, If, While, Repeat, Statements, Done, Then, Named, PlaceName, InScheduler, Unlinked, ModuleHead, Argument, ANumber, AName, Order, CreateThere, ControlThere, BroadcastThere, Declaration, Scheduler, Event, Shared, Module, Start, Outside, Source}

-- each of a list is so
abbrev pub Each : {A : Type 0} → (A → Type 0) → List A → Type 0
Each P [] = Unit {0}
Each P (x ∷ xs) = P x × Each P xs

-- what there is, is so
abbrev pub IfThere : {A : Type 0} → (A → Type 0) → Option A → Type 0
IfThere P None = Unit {0}
IfThere P (Some x) = P x

-- a name of at most 64 bytes that is no word of the language
abbrev pub NameFits : Ident → Type 0
NameFits name = IsTrue (is_name name.text)

-- a number that can be written
abbrev pub NumberFits : ℤ → Type 0
NumberFits value = (n : ℕ) × (n ≤ max_number) × (value ≡ pos n)

-- a number that can be written, with a sign or without
abbrev pub SignedFits : ℤ → Type 0
SignedFits value = (n : ℕ) × (n ≤ max_number) × ((value ≡ pos n) ⊎ (value ≡ pos 0 -ℤ pos n))

-- the names and numbers of an expression
abbrev pub WordsFit : Expression → Type 0
WordsFit (Number at value) = NumberFits value
WordsFit (Variable name) = NameFits name
WordsFit (Special at builtin) = Unit {0}
WordsFit (Unary at operator operand) = WordsFit operand
WordsFit (Binary operator left right) = WordsFit left × WordsFit right

-- few enough operands, where n nestings may still be opened
pub record ExpressionFits (n : ℕ) (e : Expression) : Type 0 where
  pub words : WordsFit e
  pub nests : nesting e ≤ n
  pub few : operands e ≤ MAX_OPERANDS

-- few enough arguments
pub record ArgumentsFit (n : ℕ) (es : List Expression) : Type 0 where
  pub each : Each (ExpressionFits n) es
  pub few : length es ≤ MAX_ARGUMENTS

pub record CreationFits (n : ℕ) (c : Creation) : Type 0 where
  pub scheduler : NameFits c.scheduler
  pub called : NameFits c.called
  pub arguments : ArgumentsFit n c.arguments

-- an event that is named
abbrev pub EventNameFits : EventName → Type 0
EventNameFits event = NameFits event.name

-- two events or more, and few enough
pub record ChoicesFit (events : List EventName) : Type 0 where
  pub each : Each EventNameFits events
  pub several : 2 ≤ length events
  pub few : length events ≤ MAX_CHOICES

-- statements, where n nestings may still be opened; an `if` or a loop opens one for all that stands in it
abbrev mutual
  pub StatementFits : Statement → ℕ → Type 0
  StatementFits (Assign target value) n = NameFits target × ExpressionFits n value
  StatementFits (AssignCreate target at creation) n = NameFits target × CreationFits n creation
  StatementFits (Create at creation) n = CreationFits n creation
  StatementFits (PrintText at line value) n = IsTrue (is_text line) × IfThere (ExpressionFits n) value
  StatementFits (PrintValue at value) n = ExpressionFits n value
  StatementFits (Cooperate at instants) n = IfThere (ExpressionFits n) instants
  StatementFits (Generate at event value) n = EventNameFits event × IfThere (ExpressionFits n) value
  StatementFits (Await at event limit) n = EventNameFits event × IfThere (ExpressionFits n) limit
  StatementFits (Select at events limit) n = ChoicesFit events × IfThere (ExpressionFits n) limit
  StatementFits (Get at event index target) n = EventNameFits event × ExpressionFits n index × NameFits target
  StatementFits (Join at thread limit) n = ExpressionFits n thread × IfThere (ExpressionFits n) limit
  StatementFits (ControlThread at control thread scheduler) n = ExpressionFits n thread × NameFits scheduler
  StatementFits (Broadcast at event value) n = EventNameFits event × IfThere (ExpressionFits n) value
  StatementFits (Link at scheduler) n = NameFits scheduler
  StatementFits (Unlink at) n = Unit {0}
  StatementFits (Run at called arguments) n = NameFits called × ArgumentsFit n arguments
  StatementFits (Halt at) n = Unit {0}
  StatementFits (If at test first second) n = (m : ℕ) × (n ≡ m + 1) × ExpressionFits m test × StatementsFit first m × StatementsFit second m
  StatementFits (While at test body) n = (m : ℕ) × (n ≡ m + 1) × ExpressionFits m test × StatementsFit body m
  StatementFits (Repeat at count body) n = (m : ℕ) × (n ≡ m + 1) × ExpressionFits m count × StatementsFit body m

  pub StatementsFit : Statements → ℕ → Type 0
  StatementsFit Done n = Unit {0}
  StatementsFit (Then first rest) n = StatementFits first n × StatementsFit rest n

-- how many statements there are, also those in the bodies of others
abbrev mutual
  pub size_of : Statement → ℕ
  size_of (Assign target value) = 1
  size_of (AssignCreate target at creation) = 1
  size_of (Create at creation) = 1
  size_of (PrintText at line value) = 1
  size_of (PrintValue at value) = 1
  size_of (Cooperate at instants) = 1
  size_of (Generate at event value) = 1
  size_of (Await at event limit) = 1
  size_of (Select at events limit) = 1
  size_of (Get at event index target) = 1
  size_of (Join at thread limit) = 1
  size_of (ControlThread at control thread scheduler) = 1
  size_of (Broadcast at event value) = 1
  size_of (Link at scheduler) = 1
  size_of (Unlink at) = 1
  size_of (Run at called arguments) = 1
  size_of (Halt at) = 1
  size_of (If at test first second) = size first + size second + 1
  size_of (While at test body) = size body + 1
  size_of (Repeat at count body) = size body + 1

  pub size : Statements → ℕ
  size Done = 0
  size (Then first rest) = size_of first + size rest

abbrev pub PlaceFits : PlaceName → Type 0
PlaceFits (InScheduler name) = NameFits name
PlaceFits Unlinked = Unit {0}

-- two names of places mean the same place
abbrev pub same_place : PlaceName → PlaceName → Bool
same_place (InScheduler m) (InScheduler n) = bytes_eq m.text n.text
same_place (InScheduler m) Unlinked = false
same_place Unlinked (InScheduler n) = false
same_place Unlinked Unlinked = true

-- an end place is another one than the begin
abbrev pub EndFits : PlaceName → Option PlaceName → Type 0
EndFits begin None = Unit {0}
EndFits begin (Some end) = PlaceFits end × (same_place begin end ≡ false)

pub record ModuleFits (head : ModuleHead) (locals : List Named) (body : Statements) : Type 0 where
  pub name : NameFits head.name
  pub parameters : Each (λ v. NameFits v.name) head.parameters
  pub few_parameters : length head.parameters ≤ MAX_PARAMETERS
  pub begin : PlaceFits head.begin
  pub end : EndFits head.begin head.end
  pub each_local : Each (λ v. NameFits v.name) locals
  pub few_locals : length locals ≤ MAX_LOCALS
  pub statements : StatementsFit body MAX_NESTING
  pub few_statements : size body ≤ MAX_STATEMENTS

abbrev pub ArgumentFits : Argument → Type 0
ArgumentFits (ANumber at value) = SignedFits value
ArgumentFits (AName name) = NameFits name

-- a thread to be made, with few enough arguments
pub record CallFits (scheduler called : Ident) (arguments : List Argument) : Type 0 where
  pub there : NameFits scheduler
  pub runs : NameFits called
  pub each : Each ArgumentFits arguments
  pub few : length arguments ≤ MAX_ARGUMENTS

abbrev pub OrderFits : Order → Type 0
OrderFits (CreateThere scheduler called arguments) = CallFits scheduler called arguments
OrderFits (ControlThere control thread scheduler) = NameFits thread × NameFits scheduler
OrderFits (BroadcastThere event value) = EventNameFits event × IfThere SignedFits value

abbrev pub DeclarationFits : Declaration → Type 0
DeclarationFits (Scheduler name) = NameFits name
DeclarationFits (Event name scheduler) = NameFits name × NameFits scheduler
DeclarationFits (Shared name scheduler value) = NameFits name × NameFits scheduler × SignedFits value
DeclarationFits (Module head locals body) = ModuleFits head locals body
DeclarationFits (Start scheduler called arguments name) = CallFits scheduler called arguments × IfThere NameFits name
DeclarationFits (Outside name orders) = NameFits name × Each OrderFits orders × (length orders ≤ MAX_ORDERS)

abbrev pub is_scheduler : Declaration → Bool
is_scheduler (Scheduler name) = true
is_scheduler (Event name scheduler) = false
is_scheduler (Shared name scheduler value) = false
is_scheduler (Module head locals body) = false
is_scheduler (Start scheduler called arguments name) = false
is_scheduler (Outside name orders) = false

abbrev pub is_event : Declaration → Bool
is_event (Scheduler name) = false
is_event (Event name scheduler) = true
is_event (Shared name scheduler value) = false
is_event (Module head locals body) = false
is_event (Start scheduler called arguments name) = false
is_event (Outside name orders) = false

abbrev pub is_shared : Declaration → Bool
is_shared (Scheduler name) = false
is_shared (Event name scheduler) = false
is_shared (Shared name scheduler value) = true
is_shared (Module head locals body) = false
is_shared (Start scheduler called arguments name) = false
is_shared (Outside name orders) = false

abbrev pub is_module : Declaration → Bool
is_module (Scheduler name) = false
is_module (Event name scheduler) = false
is_module (Shared name scheduler value) = false
is_module (Module head locals body) = true
is_module (Start scheduler called arguments name) = false
is_module (Outside name orders) = false

abbrev pub is_start : Declaration → Bool
is_start (Scheduler name) = false
is_start (Event name scheduler) = false
is_start (Shared name scheduler value) = false
is_start (Module head locals body) = false
is_start (Start scheduler called arguments name) = true
is_start (Outside name orders) = false

abbrev pub is_outside : Declaration → Bool
is_outside (Scheduler name) = false
is_outside (Event name scheduler) = false
is_outside (Shared name scheduler value) = false
is_outside (Module head locals body) = false
is_outside (Start scheduler called arguments name) = false
is_outside (Outside name orders) = true

pub record SourceFits (p : Source) : Type 0 where
  pub each : Each DeclarationFits p
  pub schedulers : count_by is_scheduler p ≤ MAX_SCHEDULERS
  pub events : count_by is_event p ≤ MAX_EVENTS
  pub shared : count_by is_shared p ≤ MAX_SHARED
  pub modules : count_by is_module p ≤ MAX_MODULES
  pub starts : count_by is_start p ≤ MAX_STARTS
  pub clients : count_by is_outside p ≤ MAX_CLIENTS
