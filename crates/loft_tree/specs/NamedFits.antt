-- Programs with numbers in place of names that are those of the language: each number is declared, kinds agree, stops
-- are numbered in text order, and nothing is past its limit (docs/LANGUAGE.md, "Numbers of names").
use Rattle.std.specs.Prelude.{◌≡◌, ℕ, ◌+◌, ◌<◌, ◌≤◌, Bool, true, false, IsTrue, List, [], ◌∷◌, ◌++◌, length, map, Option, Some, None, slice_get}
use Rattle.std.specs.List.{flat_map}
use Rattle.std.specs.Option.{option_map}
use Rattle.loft_base.specs.declared.ids.SchedId.{SchedId}
use Rattle.loft_base.specs.declared.ids.ModuleId.{ModuleId}
use Rattle.loft_base.specs.declared.ids.ThreadId.{ThreadId}
use Rattle.loft_base.specs.declared.ids.Maker.TheVariants.{Source}
use Rattle.loft_base.specs.declared.ids.Value.{Value}
use Rattle.loft_base.specs.declared.ids.Value.TheVariants as value
use Rattle.loft_lex.specs.Fits.{is_name, is_text}
use Rattle.loft_tree.specs.declared.limits.TheConstants.{MAX_SCHEDULERS, MAX_EVENTS, MAX_SHARED, MAX_MODULES, MAX_STARTS, MAX_CLIENTS, MAX_ORDERS, MAX_PARAMETERS, MAX_LOCALS, MAX_STATEMENTS, MAX_OPERANDS, MAX_CHOICES, MAX_NESTING}
use Rattle.loft_tree.specs.declared.kinds.Kind.{Kind}
use Rattle.loft_tree.specs.declared.kinds.Kind.TheVariants.{Int, Thread}
use Rattle.loft_tree.specs.declared.heads.Place.{Place}
use Rattle.loft_tree.specs.declared.heads.Place.TheVariants.{Sched, Unlinked as Nowhere}
use Rattle.loft_tree.specs.declared.heads.SlotHead.{SlotHead}
use Rattle.loft_tree.specs.declared.heads.EventHead.{EventHead}
use Rattle.loft_tree.specs.declared.heads.SharedHead.{SharedHead}
use Rattle.loft_tree.specs.declared.heads.Signature.{Signature}
use Rattle.loft_tree.specs.declared.heads.Start.{Start as StartHead}
use Rattle.loft_tree.specs.declared.heads.ClientOrder.{ClientOrder}
use Rattle.loft_tree.specs.declared.heads.ClientOrder.TheVariants as order
use Rattle.loft_tree.specs.declared.heads.Client.{Client as ClientHead}
use Rattle.loft_tree.specs.declared.heads.HeadItem.{HeadItem}
use Rattle.loft_tree.specs.declared.heads.HeadItem.TheVariants as item
use Rattle.loft_tree.specs.declared.heads.Heads.{Heads}
use Rattle.loft_tree.specs.declared.named.Target.{Target}
use Rattle.loft_tree.specs.declared.named.Target.TheVariants as target
use Rattle.loft_tree.specs.declared.named.LinkItem.{LinkItem}
use Rattle.loft_tree.specs.declared.named.LinkItem.TheVariants as link
use Rattle.loft_tree.specs.NamedTree.{EventUse, NamedExpression, Number, Slot, Shared, Special, Unary, Binary, NamedCreation, NamedAction, Assign, Make, PrintText, PrintValue, Generate, ControlThread, Broadcast, NamedPause, Cooperate, Await, Get, Join, Link, Unlink, Halt, NamedStatement, Do, Hold, Run, If, While, Repeat, NamedStatements, Done, Then, NamedModule, NamedProgram}
use Rattle.loft_tree.specs.Fits.{Each, IfThere, NumberFits, SignedFits}
use Rattle.loft_tree.specs.HeadsFit.{agree, kinds_of}
use Rattle.loft_tree.specs.KindOf.{builtin_kind, compares}
use Rattle.loft_tree.specs.Levels.{Shape, Operand, Signed, Joined, shape_nesting, shape_operands}
use Rattle.loft_tree.specs.Stops.{AreNumbered, size}

-- ---- what a program declares

-- a scheduler that is declared
abbrev pub IsScheduler : Heads → SchedId → Type 0
IsScheduler h s = s.0 < length h.schedulers

-- a place that is declared
abbrev pub IsPlace : Heads → Place → Type 0
IsPlace h (Sched s) = IsScheduler h s
IsPlace h Nowhere = Unit {0}

-- a thread that the source starts
abbrev pub IsStarted : Heads → ThreadId → Type 0
IsStarted h t = (t.maker ≡ Source) × (t.seq < length h.starts)

abbrev pub IsName : List ℕ → Type 0
IsName text = IsTrue (is_name text)

pub record EventHolds (h : Heads) (e : EventHead) : Type 0 where
  pub name : IsName e.name
  pub scheduler : IsScheduler h e.scheduler

pub record SharedHolds (h : Heads) (x : SharedHead) : Type 0 where
  pub name : IsName x.name
  pub scheduler : IsScheduler h x.scheduler
  pub value : SignedFits x.value

abbrev pub SlotHolds : SlotHead → Type 0
SlotHolds v = IsName v.name

pub record SignatureHolds (h : Heads) (m : Signature) : Type 0 where
  pub name : IsName m.name
  pub parameters : Each SlotHolds m.parameters
  pub few_parameters : length m.parameters ≤ MAX_PARAMETERS
  pub locals : Each SlotHolds m.locals
  pub few_locals : length m.locals ≤ MAX_LOCALS
  pub begin : IsPlace h m.begin
  pub end : IsPlace h m.end

-- the value of an argument outside module bodies: a number, or a thread that the source starts
abbrev pub ArgumentHolds : Heads → Value → Type 0
ArgumentHolds h (value.Int number) = SignedFits number
ArgumentHolds h (value.Thread thread) = IsStarted h thread

-- the module is declared, and takes these arguments
abbrev pub TakesArguments : Option Signature → List Value → Type 0
TakesArguments None args = ⊥
TakesArguments (Some m) args = IsTrue (agree (kinds_of m.parameters) args)

-- a thread that is made outside module bodies
pub record CallHolds (h : Heads) (s : SchedId) (m : ModuleId) (args : List Value) : Type 0 where
  pub scheduler : IsScheduler h s
  pub arguments : Each (ArgumentHolds h) args
  pub takes : TakesArguments (slice_get h.modules m.0) args

pub record StartHolds (h : Heads) (t : StartHead) : Type 0 where
  pub call : CallHolds h t.scheduler t.module t.arguments
  pub name : IfThere IsName t.name

abbrev pub OrderHolds : Heads → ClientOrder → Type 0
OrderHolds h (order.Create scheduler m arguments) = CallHolds h scheduler m arguments
OrderHolds h (order.Control control thread scheduler) = IsStarted h thread × IsScheduler h scheduler
OrderHolds h (order.Broadcast event value) = (event.0 < length h.events) × IfThere SignedFits value

pub record ClientHolds (h : Heads) (c : ClientHead) : Type 0 where
  pub name : IsName c.name
  pub orders : Each (OrderHolds h) c.orders
  pub few_orders : length c.orders ≤ MAX_ORDERS

-- how many declarations of each sort there are
pub record Tally : Type 0 where
  pub schedulers : ℕ
  pub events : ℕ
  pub shared : ℕ
  pub modules : ℕ
  pub starts : ℕ
  pub clients : ℕ

-- after so many, these declarations are numbered one by one, sort by sort, and make so many in all
abbrev pub AreCounted : Tally → List HeadItem → Tally → Type 0
AreCounted n [] all = n ≡ all
AreCounted n (item.Scheduler s ∷ is) all = (s.0 ≡ n.schedulers) × AreCounted (record n { schedulers = n.schedulers + 1 }) is all
AreCounted n (item.Event e ∷ is) all = (e.0 ≡ n.events) × AreCounted (record n { events = n.events + 1 }) is all
AreCounted n (item.Shared x ∷ is) all = (x.0 ≡ n.shared) × AreCounted (record n { shared = n.shared + 1 }) is all
AreCounted n (item.Module m ∷ is) all = (m.0 ≡ n.modules) × AreCounted (record n { modules = n.modules + 1 }) is all
AreCounted n (item.Start t ∷ is) all = (t ≡ n.starts) × AreCounted (record n { starts = n.starts + 1 }) is all
AreCounted n (item.Client c ∷ is) all = (c ≡ n.clients) × AreCounted (record n { clients = n.clients + 1 }) is all

abbrev pub no_items : Tally
no_items = record { schedulers = 0; events = 0; shared = 0; modules = 0; starts = 0; clients = 0 }

abbrev pub tally_of : Heads → Tally
tally_of h = record { schedulers = length h.schedulers; events = length h.events; shared = length h.shared; modules = length h.modules; starts = length h.starts; clients = length h.clients }

-- what is declared keeps the limits of the language, and refers to what is declared
pub record HeadsWithinLimits (h : Heads) : Type 0 where
  pub schedulers : Each IsName h.schedulers
  pub few_schedulers : length h.schedulers ≤ MAX_SCHEDULERS
  pub events : Each (EventHolds h) h.events
  pub few_events : length h.events ≤ MAX_EVENTS
  pub shared : Each (SharedHolds h) h.shared
  pub few_shared : length h.shared ≤ MAX_SHARED
  pub modules : Each (SignatureHolds h) h.modules
  pub few_modules : length h.modules ≤ MAX_MODULES
  pub starts : Each (StartHolds h) h.starts
  pub few_starts : length h.starts ≤ MAX_STARTS
  pub clients : Each (ClientHolds h) h.clients
  pub few_clients : length h.clients ≤ MAX_CLIENTS
  -- each declaration stands once in the order of the text
  pub items : AreCounted no_items h.items (tally_of h)

pub record HeadsHold (h : Heads) : Type 0 where
  pub within : HeadsWithinLimits h
  pub some_scheduler : 1 ≤ length h.schedulers

-- ---- names of declarations

-- the declaration has this name
abbrev pub IsNamed : Heads → HeadItem → List ℕ → Type 0
IsNamed h (item.Scheduler s) name = slice_get h.schedulers s.0 ≡ Some name
IsNamed h (item.Event e) name = option_map (λ x. x.name) (slice_get h.events e.0) ≡ Some name
IsNamed h (item.Shared x) name = option_map (λ y. y.name) (slice_get h.shared x.0) ≡ Some name
IsNamed h (item.Module m) name = option_map (λ x. x.name) (slice_get h.modules m.0) ≡ Some name
IsNamed h (item.Start t) name = option_map (λ x. x.name) (slice_get h.starts t) ≡ Some (Some name)
IsNamed h (item.Client c) name = option_map (λ x. x.name) (slice_get h.clients c) ≡ Some name

-- the names of the slots of a module
abbrev pub slot_names : Signature → List (List ℕ)
slot_names m = map (λ v. v.name) m.parameters ++ map (λ v. v.name) m.locals

-- the slots of a module have names of their own
pub record SlotsDiffer (h : Heads) (m : Signature) : Type 0 where
  pub each_other : (i j : ℕ) (name : List ℕ) → slice_get (slot_names m) i ≡ Some name → slice_get (slot_names m) j ≡ Some name → i ≡ j
  pub others : (i : ℕ) (a : HeadItem) (name : List ℕ) → slice_get (slot_names m) i ≡ Some name → IsNamed h a name → ⊥

-- no two declarations that can be seen from one place of the text have one name
pub record NamesDiffer (h : Heads) : Type 0 where
  pub declarations : (a b : HeadItem) (name : List ℕ) → IsNamed h a name → IsNamed h b name → a ≡ b
  pub slots : Each (SlotsDiffer h) h.modules

-- ---- expressions

abbrev pub shape_of : NamedExpression → Shape
shape_of (Number value) = Operand
shape_of (Slot slot) = Operand
shape_of (Shared at shared) = Operand
shape_of (Special builtin) = Operand
shape_of (Unary operator operand) = Signed (shape_of operand)
shape_of (Binary operator left right) = Joined operator (shape_of left) (shape_of right)

-- two operands: of one kind where the operator compares them, else ints
abbrev pub OperandsAgree : Bool → (Kind → Type 0) → (Kind → Type 0) → Type 0
OperandsAgree true Left Right = (kind : Kind) × Left kind × Right kind
OperandsAgree false Left Right = Left Int × Right Int

-- what a program declares, and the kinds of the slots of a module
module _ (h : Heads) (slots : List Kind) where
  -- an expression whose names are declared and whose kinds agree, which has this kind
  abbrev pub HasKind : NamedExpression → Kind → Type 0
  HasKind (Number value) kind = NumberFits value × (kind ≡ Int)
  HasKind (Slot slot) kind = slice_get slots slot ≡ Some kind
  HasKind (Shared at shared) kind = (shared.0 < length h.shared) × (kind ≡ Int)
  HasKind (Special builtin) kind = kind ≡ builtin_kind builtin
  HasKind (Unary operator operand) kind = HasKind operand Int × (kind ≡ Int)
  HasKind (Binary operator left right) kind = OperandsAgree (compares operator) (HasKind left) (HasKind right) × (kind ≡ Int)

  -- the same, and it is small enough where n nestings may still be opened
  pub record IsOf (kind : Kind) (n : ℕ) (e : NamedExpression) : Type 0 where
    pub has : HasKind e kind
    pub nests : shape_nesting (shape_of e) ≤ n
    pub few : shape_operands (shape_of e) ≤ MAX_OPERANDS

  -- of some kind
  abbrev pub IsValue : ℕ → NamedExpression → Type 0
  IsValue n e = (kind : Kind) × IsOf kind n e

  -- a variable of this kind
  abbrev pub TargetHasKind : Target → Kind → Type 0
  TargetHasKind (target.Slot slot) kind = slice_get slots slot ≡ Some kind
  TargetHasKind (target.Shared at shared) kind = (shared.0 < length h.shared) × (kind ≡ Int)

  -- an event that is declared
  abbrev pub IsEvent : EventUse → Type 0
  IsEvent e = e.event.0 < length h.events

  -- as many arguments as parameters, each of its parameter's kind
  abbrev pub ArgumentsHold : ℕ → List Kind → List NamedExpression → Type 0
  ArgumentsHold n [] [] = Unit {0}
  ArgumentsHold n [] (e ∷ es) = ⊥
  ArgumentsHold n (kind ∷ kinds) [] = ⊥
  ArgumentsHold n (kind ∷ kinds) (e ∷ es) = IsOf kind n e × ArgumentsHold n kinds es

  -- the module is declared, and takes these arguments
  abbrev pub IsCall : ℕ → Option Signature → List NamedExpression → Type 0
  IsCall n None es = ⊥
  IsCall n (Some m) es = ArgumentsHold n (kinds_of m.parameters) es

  pub record CreationHolds (n : ℕ) (c : NamedCreation) : Type 0 where
    pub scheduler : IsScheduler h c.scheduler
    pub call : IsCall n (slice_get h.modules c.module.0) c.arguments

  -- events that are declared: at least one, and few enough
  pub record ChoicesHold (events : List EventUse) : Type 0 where
    pub each : Each IsEvent events
    pub some : 1 ≤ length events
    pub few : length events ≤ MAX_CHOICES

  -- ---- statements

  -- an action, where n nestings may still be opened
  abbrev pub ActionHolds : NamedAction → ℕ → Type 0
  ActionHolds (Assign target value) n = (kind : Kind) × TargetHasKind target kind × IsOf kind n value
  ActionHolds (Make target creation) n = IfThere (λ t. TargetHasKind t Thread) target × CreationHolds n creation
  ActionHolds (PrintText line value) n = IsTrue (is_text line) × IfThere (IsValue n) value
  ActionHolds (PrintValue value) n = IsValue n value
  ActionHolds (Generate event value) n = IsEvent event × IfThere (IsOf Int n) value
  ActionHolds (ControlThread control thread scheduler) n = IsOf Thread n thread × IsScheduler h scheduler
  ActionHolds (Broadcast event value) n = IsEvent event × IfThere (IsOf Int n) value

  -- the same of a pause
  abbrev pub PauseHolds : NamedPause → ℕ → Type 0
  PauseHolds (Cooperate instants) n = IfThere (IsOf Int n) instants
  PauseHolds (Await events limit) n = ChoicesHold events × IfThere (IsOf Int n) limit
  PauseHolds (Get event index target) n = IsEvent event × IsOf Int n index × TargetHasKind target Int
  PauseHolds (Join thread limit) n = IsOf Thread n thread × IfThere (IsOf Int n) limit
  PauseHolds (Link scheduler) n = IsScheduler h scheduler
  PauseHolds Unlink n = Unit {0}
  PauseHolds Halt n = Unit {0}

  -- statements, where n nestings may still be opened; an `if` or a loop opens one for all that stands in it
  abbrev mutual
    pub StatementHolds : NamedStatement → ℕ → Type 0
    StatementHolds (Do at action) n = ActionHolds action n
    StatementHolds (Hold at stop pause) n = PauseHolds pause n
    StatementHolds (Run at stop called m arguments) n = IsCall n (slice_get h.modules m.0) arguments
    StatementHolds (If at test first second) n = (m : ℕ) × (n ≡ m + 1) × IsOf Int m test × StatementsHold first m × StatementsHold second m
    StatementHolds (While at test body) n = (m : ℕ) × (n ≡ m + 1) × IsOf Int m test × StatementsHold body m
    StatementHolds (Repeat at count body) n = (m : ℕ) × (n ≡ m + 1) × IsOf Int m count × StatementsHold body m

    pub StatementsHold : NamedStatements → ℕ → Type 0
    StatementsHold Done n = Unit {0}
    StatementsHold (Then first rest) n = StatementHolds first n × StatementsHold rest n

-- the kinds of the slots of a module: its parameters, then its local variables
abbrev pub slots_of : Signature → List Kind
slots_of m = kinds_of m.parameters ++ kinds_of m.locals

-- ---- programs

pub record BodyHolds (h : Heads) (m : Signature) (body : NamedStatements) : Type 0 where
  pub statements : StatementsHold h (slots_of m) body MAX_NESTING
  pub few_statements : size body ≤ MAX_STATEMENTS
  pub stops : AreNumbered body 0

-- as many bodies as modules are declared, each of its module
abbrev pub BodiesHold : Heads → List Signature → List NamedModule → Type 0
BodiesHold h [] [] = Unit {0}
BodiesHold h [] (x ∷ xs) = ⊥
BodiesHold h (m ∷ ms) [] = ⊥
BodiesHold h (m ∷ ms) (x ∷ xs) = BodyHolds h m x.body × BodiesHold h ms xs

-- a declaration that has to do with links, without the offset of its name
pub data Linked : Type 0 where
  AModule : (m : ModuleId) → Linked
  AStart : (start : ℕ) → Linked
  ACreate : (client order : ℕ) → Linked

abbrev pub linked_of : LinkItem → Linked
linked_of (link.Module m) = AModule m
linked_of (link.Start at start) = AStart start
linked_of (link.Create at client order) = ACreate client order

-- the creates among the orders of a client, where the first order has this number
abbrev pub creates_from : ℕ → ℕ → List ClientOrder → List Linked
creates_from client number [] = []
creates_from client number (order.Create scheduler m arguments ∷ os) = ACreate client number ∷ creates_from client (number + 1) os
creates_from client number (order.Control control thread scheduler ∷ os) = creates_from client (number + 1) os
creates_from client number (order.Broadcast event value ∷ os) = creates_from client (number + 1) os

abbrev pub creates_of : ℕ → Option ClientHead → List Linked
creates_of client None = []
creates_of client (Some c) = creates_from client 0 c.orders

-- what a declaration has to do with links
abbrev pub linked_in : Heads → HeadItem → List Linked
linked_in h (item.Scheduler s) = []
linked_in h (item.Event e) = []
linked_in h (item.Shared x) = []
linked_in h (item.Module m) = AModule m ∷ []
linked_in h (item.Start t) = AStart t ∷ []
linked_in h (item.Client c) = creates_of c (slice_get h.clients c)

pub record NamedFits (n : NamedProgram) : Type 0 where
  pub heads : HeadsHold n.heads
  pub names : NamesDiffer n.heads
  pub bodies : BodiesHold n.heads n.heads.modules n.modules
  -- the modules, starts and clients' creates, each once in the order of the text
  pub links : map linked_of n.links ≡ flat_map (linked_in n.heads) n.heads.items
