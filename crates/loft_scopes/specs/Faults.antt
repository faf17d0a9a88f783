-- What is wrong with the names and kinds of a program (docs/LANGUAGE.md, "Names" and "Kinds").
use Rattle.std.specs.Prelude.{◌≡◌, ℕ, ◌<◌, ◌⊎◌, Bool, true, false, ◌==◌, if◌then◌else◌, List, [], ◌∷◌, ◌++◌, length, Option, Some, None, unwrap_or}
use Rattle.std.specs.List.{Contains, list_any}
use Rattle.loft_tree.specs.declared.kinds.Kind.{Kind}
use Rattle.loft_tree.specs.declared.kinds.Kind.TheVariants.{Int, Thread}
use Rattle.loft_tree.specs.declared.kinds.BinaryOperator.{BinaryOperator}
use Rattle.loft_tree.specs.Source.{Ident, EventName, Expression, Number, Variable, Special, Unary, Binary, Creation, Statement, Assign, AssignCreate, Create, PrintText, PrintValue, Cooperate, Generate, Await, Select, Get, Join, ControlThread, Broadcast, Link, Unlink, Run, Halt, If, While, Repeat, Statements, Done, Then, PlaceName, InScheduler, Unlinked, ModuleHead, Argument, ANumber, AName, Order, CreateThere, ControlThere, BroadcastThere, Declaration, Scheduler, Event, Shared, Module, Start, Outside, Source}
use Rattle.loft_tree.specs.KindOf.{builtin_kind, compares}
use Rattle.loft_scopes.specs.declared.error.NameError.{NameError}
use Rattle.loft_scopes.specs.declared.error.NameError.TheVariants.{NoScheduler, Unknown, Twice, Arity, Kind as WrongKind, NoMemory}
use Rattle.loft_scopes.specs.Modules.{next_module}
use Rattle.loft_scopes.specs.Scopes.{Sort, AScheduler, AnEvent, AShared, AModule, AStart, AClient, AVariable, Scope, Everywhere, Within, Declared, declared, earlier, meaning}

-- ---- declarations

-- d is declared again, where there is an earlier one
abbrev pub again : Declared → Option Declared → List NameError
again d None = []
again d (Some first) = Twice d.name.at first.name.at ∷ []

-- Each declaration whose name is declared before, where both can be seen; before are the declarations that came already.
abbrev pub twice_from : List Declared → List Declared → List NameError
twice_from before [] = []
twice_from before (d ∷ ds) = again d (earlier before d) ++ twice_from (before ++ d ∷ []) ds

-- ---- uses

abbrev pub same_kind : Kind → Kind → Bool
same_kind Int Int = true
same_kind Int Thread = false
same_kind Thread Int = false
same_kind Thread Thread = true

-- the sorts that a use allows
abbrev pub is_scheduler : Sort → Bool
is_scheduler AScheduler = true
is_scheduler AnEvent = false
is_scheduler AShared = false
is_scheduler (AModule parameters) = false
is_scheduler AStart = false
is_scheduler AClient = false
is_scheduler (AVariable kind) = false

abbrev pub is_event : Sort → Bool
is_event AScheduler = false
is_event AnEvent = true
is_event AShared = false
is_event (AModule parameters) = false
is_event AStart = false
is_event AClient = false
is_event (AVariable kind) = false

abbrev pub is_start : Sort → Bool
is_start AScheduler = false
is_start AnEvent = false
is_start AShared = false
is_start (AModule parameters) = false
is_start AStart = true
is_start AClient = false
is_start (AVariable kind) = false

-- the parameters' kinds of a module
abbrev pub parameters_of : Sort → Option (List Kind)
parameters_of AScheduler = None
parameters_of AnEvent = None
parameters_of AShared = None
parameters_of (AModule parameters) = Some parameters
parameters_of AStart = None
parameters_of AClient = None
parameters_of (AVariable kind) = None

-- the kind of what has a value: a variable of the module, or a shared one, which is an int
abbrev pub kind_in : Sort → Option Kind
kind_in AScheduler = None
kind_in AnEvent = None
kind_in AShared = Some Int
kind_in (AModule parameters) = None
kind_in AStart = None
kind_in AClient = None
kind_in (AVariable kind) = Some kind

-- the result of reading a name as something: unknown, of another sort, or what it is
pub data Use (A : Type 0) : Type 0 where
  NotDeclared : Use A
  OtherSort : Use A
  Means : (x : A) → Use A

abbrev pub allowed : {A : Type 0} → Option A → Use A
allowed None = OtherSort
allowed (Some x) = Means x

abbrev pub used : {A : Type 0} → (Sort → Option A) → Option Declared → Use A
used view None = NotDeclared
used view (Some d) = allowed (view d.sort)

-- the fault of a use, at its offset
abbrev pub use_faults : {A : Type 0} → ℕ → Use A → List NameError
use_faults at NotDeclared = Unknown at ∷ []
use_faults at OtherSort = WrongKind at ∷ []
use_faults at (Means x) = []

abbrev pub meant : {A : Type 0} → Use A → Option A
meant NotDeclared = None
meant OtherSort = None
meant (Means x) = Some x

-- a call of something that isn't a module is compared with nothing
abbrev pub kinds_wanted : Option (List Kind) → List Kind
kinds_wanted parameters = unwrap_or parameters []

-- a call of a module with so many arguments
abbrev pub arity_faults : ℕ → Option (List Kind) → ℕ → List NameError
arity_faults at None many = []
arity_faults at (Some parameters) many = if many == length parameters then [] else Arity at ∷ []

abbrev pub only_if : (Sort → Bool) → Sort → Option (Unit {0})
only_if test sort = if test sort then Some tt else None

abbrev pub thread_if : (Sort → Bool) → Sort → Option Kind
thread_if test sort = if test sort then Some Thread else None

-- ---- kinds of expressions

-- where an expression begins: at its leftmost token that is no bracket
abbrev pub begin_of : Expression → ℕ
begin_of (Number at value) = at
begin_of (Variable name) = name.at
begin_of (Special at builtin) = at
begin_of (Unary at operator operand) = at
begin_of (Binary operator left right) = begin_of left

-- where an argument stands
abbrev pub argument_at : Argument → ℕ
argument_at (ANumber at value) = at
argument_at (AName name) = name.at

-- a known kind that isn't the wanted one is a fault at this offset
abbrev pub unlike : Option Kind → Option Kind → ℕ → List NameError
unlike None found at = []
unlike (Some wanted) None at = []
unlike (Some wanted) (Some found) at = if same_kind wanted found then [] else WrongKind at ∷ []

-- the declarations of the program, and where its names are used
module _ (ds : List Declared) (scope : Scope) where
  abbrev pub value_use : Ident → Use Kind
  value_use name = used kind_in (meaning ds scope name)

  -- the kind of an expression; a name that isn't a value has none
  abbrev pub kind_of : Expression → Option Kind
  kind_of (Number at value) = Some Int
  kind_of (Variable name) = meant (value_use name)
  kind_of (Special at builtin) = Some (builtin_kind builtin)
  kind_of (Unary at operator operand) = Some Int
  kind_of (Binary operator left right) = Some Int

  -- an expression that has to be of a kind
  abbrev pub kind_faults : Kind → Expression → List NameError
  kind_faults wanted e = unlike (Some wanted) (kind_of e) (begin_of e)

  -- `==` and `!=` take two of one kind, and the right one is the fault; all other operators take ints
  abbrev pub operand_faults : BinaryOperator → Expression → Expression → List NameError
  operand_faults operator left right =
      if compares operator then unlike (kind_of left) (kind_of right) (begin_of right) else kind_faults Int left ++ kind_faults Int right

  abbrev pub expression_faults : Expression → List NameError
  expression_faults (Number at value) = []
  expression_faults (Variable name) = use_faults name.at (value_use name)
  expression_faults (Special at builtin) = []
  expression_faults (Unary at operator operand) = expression_faults operand ++ kind_faults Int operand
  expression_faults (Binary operator left right) = expression_faults left ++ (expression_faults right ++ operand_faults operator left right)

  abbrev pub wants : Kind → Expression → List NameError
  wants kind e = expression_faults e ++ kind_faults kind e

  abbrev pub wants_if : Kind → Option Expression → List NameError
  wants_if kind None = []
  wants_if kind (Some e) = wants kind e

  abbrev pub scheduler_faults : Ident → List NameError
  scheduler_faults name = use_faults name.at (used (only_if is_scheduler) (meaning ds scope name))

  abbrev pub event_faults : EventName → List NameError
  event_faults event = use_faults event.name.at (used (only_if is_event) (meaning ds scope event.name))

  abbrev pub events_faults : List EventName → List NameError
  events_faults [] = []
  events_faults (event ∷ events) = event_faults event ++ events_faults events

  -- a name that has to be a value of a kind
  abbrev pub target_faults : Kind → Ident → List NameError
  target_faults kind name = use_faults name.at (value_use name) ++ unlike (Some kind) (meant (value_use name)) name.at

  -- ---- calls

  -- the arguments, each against the kind of its parameter, as far as there are parameters
  abbrev pub arguments_faults : List Kind → List Expression → List NameError
  arguments_faults ks [] = []
  arguments_faults [] (e ∷ es) = expression_faults e ++ arguments_faults [] es
  arguments_faults (k ∷ ks) (e ∷ es) = wants k e ++ arguments_faults ks es

  abbrev pub module_use : Ident → Use (List Kind)
  module_use name = used parameters_of (meaning ds scope name)

  abbrev pub call_faults : Ident → List Expression → List NameError
  call_faults called es =
      use_faults called.at (module_use called)
      ++ (arity_faults called.at (meant (module_use called)) (length es) ++ arguments_faults (kinds_wanted (meant (module_use called))) es)

  abbrev pub creation_faults : Creation → List NameError
  creation_faults c = scheduler_faults c.scheduler ++ call_faults c.called c.arguments

  -- ---- statements

  abbrev mutual
    pub statement_faults : Statement → List NameError
    statement_faults (Assign target value) =
        use_faults target.at (value_use target) ++ (expression_faults value ++ unlike (meant (value_use target)) (kind_of value) (begin_of value))
    statement_faults (AssignCreate target at creation) = target_faults Thread target ++ creation_faults creation
    statement_faults (Create at creation) = creation_faults creation
    statement_faults (PrintText at line None) = []
    statement_faults (PrintText at line (Some value)) = expression_faults value
    statement_faults (PrintValue at value) = expression_faults value
    statement_faults (Cooperate at instants) = wants_if Int instants
    statement_faults (Generate at event value) = event_faults event ++ wants_if Int value
    statement_faults (Await at event limit) = event_faults event ++ wants_if Int limit
    statement_faults (Select at events limit) = events_faults events ++ wants_if Int limit
    statement_faults (Get at event index target) = event_faults event ++ (wants Int index ++ target_faults Int target)
    statement_faults (Join at thread limit) = wants Thread thread ++ wants_if Int limit
    statement_faults (ControlThread at control thread scheduler) = wants Thread thread ++ scheduler_faults scheduler
    statement_faults (Broadcast at event value) = event_faults event ++ wants_if Int value
    statement_faults (Link at scheduler) = scheduler_faults scheduler
    statement_faults (Unlink at) = []
    statement_faults (Run at called arguments) = call_faults called arguments
    statement_faults (Halt at) = []
    statement_faults (If at test first second) = wants Int test ++ (body_faults first ++ body_faults second)
    statement_faults (While at test body) = wants Int test ++ body_faults body
    statement_faults (Repeat at count body) = wants Int count ++ body_faults body

    pub body_faults : Statements → List NameError
    body_faults Done = []
    body_faults (Then first rest) = statement_faults first ++ body_faults rest

  abbrev pub place_faults : PlaceName → List NameError
  place_faults (InScheduler name) = scheduler_faults name
  place_faults Unlinked = []

  abbrev pub end_faults : Option PlaceName → List NameError
  end_faults None = []
  end_faults (Some place) = place_faults place

  -- ---- items

  -- the thread that a start names so
  abbrev pub start_use : Ident → Use (Unit {0})
  start_use name = used (only_if is_start) (meaning ds scope name)

  abbrev pub argument_faults : Argument → List NameError
  argument_faults (ANumber at value) = []
  argument_faults (AName name) = use_faults name.at (start_use name)

  -- the kind of an argument
  abbrev pub argument_kind : Argument → Option Kind
  argument_kind (ANumber at value) = Some Int
  argument_kind (AName name) = meant (used (thread_if is_start) (meaning ds scope name))

  -- the same for arguments outside module bodies
  abbrev pub outer_faults : List Kind → List Argument → List NameError
  outer_faults ks [] = []
  outer_faults [] (a ∷ args) = argument_faults a ++ outer_faults [] args
  outer_faults (k ∷ ks) (a ∷ args) = argument_faults a ++ (unlike (Some k) (argument_kind a) (argument_at a) ++ outer_faults ks args)

  abbrev pub start_faults : Ident → Ident → List Argument → List NameError
  start_faults scheduler called args =
      scheduler_faults scheduler
      ++ (use_faults called.at (module_use called)
      ++ (arity_faults called.at (meant (module_use called)) (length args) ++ outer_faults (kinds_wanted (meant (module_use called))) args))

  abbrev pub order_faults : Order → List NameError
  order_faults (CreateThere scheduler called arguments) = start_faults scheduler called arguments
  order_faults (ControlThere control thread scheduler) = use_faults thread.at (start_use thread) ++ scheduler_faults scheduler
  order_faults (BroadcastThere event value) = event_faults event

  abbrev pub orders_faults : List Order → List NameError
  orders_faults [] = []
  orders_faults (x ∷ xs) = order_faults x ++ orders_faults xs

-- a module; its head is read where its variables are seen
abbrev pub module_uses : List Declared → ℕ → ModuleHead → Statements → List NameError
module_uses ds number head body = place_faults ds (Within number) head.begin ++ (end_faults ds (Within number) head.end ++ body_faults ds (Within number) body)

-- the uses of a declaration, where the next module has this number
abbrev pub declaration_uses : List Declared → ℕ → Declaration → List NameError
declaration_uses ds number (Scheduler name) = []
declaration_uses ds number (Event name scheduler) = scheduler_faults ds Everywhere scheduler
declaration_uses ds number (Shared name scheduler value) = scheduler_faults ds Everywhere scheduler
declaration_uses ds number (Module head locals body) = module_uses ds number head body
declaration_uses ds number (Start scheduler called arguments name) = start_faults ds Everywhere scheduler called arguments
declaration_uses ds number (Outside name orders) = orders_faults ds Everywhere orders

-- the uses of all
abbrev pub uses_from : List Declared → ℕ → Source → List NameError
uses_from ds number [] = []
uses_from ds number (d ∷ rest) = declaration_uses ds number d ++ uses_from ds (next_module number d) rest

-- all that is wrong, in no order that matters
abbrev pub faults : Source → List NameError
faults p = twice_from [] (declared p) ++ uses_from (declared p) 0 p

-- ---- which fault comes first

abbrev pub place_of : NameError → ℕ
place_of NoScheduler = 0
place_of (Unknown at) = at
place_of (Twice at first) = at
place_of (Arity at) = at
place_of (WrongKind at) = at
place_of NoMemory = 0

-- at one offset the order is Unknown, Twice, Kind, Arity; NoScheduler and NoMemory are never among
-- the faults
abbrev pub rank_of : NameError → ℕ
rank_of NoScheduler = 0
rank_of (Unknown at) = 1
rank_of (Twice at first) = 2
rank_of (WrongKind at) = 3
rank_of (Arity at) = 4
rank_of NoMemory = 5

-- the first declaration of the name; this decides only between faults that no text has, where two
-- declarations stand at one offset
abbrev pub first_of : NameError → ℕ
first_of NoScheduler = 0
first_of (Unknown at) = 0
first_of (Twice at first) = first
first_of (Arity at) = 0
first_of (WrongKind at) = 0
first_of NoMemory = 0

-- m is less than n, or they are the same and this holds
abbrev pub Before : ℕ → ℕ → Type 0 → Type 0
Before m n rest = (m < n) ⊎ ((m ≡ n) × rest)

-- e comes before d: by the offset, at one offset by the rank, at one rank by the first declaration
abbrev pub Precedes : NameError → NameError → Type 0
Precedes e d = Before (place_of e) (place_of d) (Before (rank_of e) (rank_of d) (first_of e < first_of d))

-- one of the faults, which no other one precedes
pub record IsFirst (e : NameError) (es : List NameError) : Type 0 where
  pub there : Contains es e
  pub first : (d : NameError) → Contains es d → Precedes d e → ⊥

abbrev pub declares_scheduler : Declared → Bool
declares_scheduler d = is_scheduler d.sort

-- a program has a scheduler
abbrev pub has_scheduler : Source → Bool
has_scheduler p = list_any declares_scheduler (declared p)

-- The fault of a program's names: it has no scheduler, or else the first of what is wrong.
abbrev pub NameFault : Source → NameError → Type 0
NameFault p e = ((has_scheduler p ≡ false) × (e ≡ NoScheduler)) ⊎ ((has_scheduler p ≡ true) × IsFirst e (faults p))

-- the names and kinds of a program are correct
pub record NamesFit (p : Source) : Type 0 where
  pub scheduler : has_scheduler p ≡ true
  pub faultless : faults p ≡ []
