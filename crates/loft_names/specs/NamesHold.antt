-- What it is that names and kinds are correct (docs/LANGUAGE.md, "Names" and "Kinds").
use Rattle.std.specs.Prelude.{◌≡◌, ℕ, ◌⊎◌, IsTrue, List, [], ◌∷◌, Some, slice_get}
use Rattle.std.specs.List.{Contains}
use Rattle.loft_tree.specs.declared.kinds.Kind.{Kind}
use Rattle.loft_tree.specs.declared.kinds.Kind.TheVariants.{Int, Thread}
use Rattle.loft_tree.specs.Source.{Ident, EventName, Expression, Number, Variable, Special, Unary, Binary, Creation, Statement, Assign, AssignCreate, Create, PrintText, PrintValue, Cooperate, Generate, Await, Select, Get, Join, ControlThread, Broadcast, Link, Unlink, Run, Halt, If, While, Repeat, Statements, Done, Then, PlaceName, InScheduler, Unlinked, Argument, ANumber, AName, Order, CreateThere, ControlThere, BroadcastThere, Declaration, Scheduler, Event, Shared, Module, Start, Outside, Source}
use Rattle.loft_tree.specs.Fits.{Each, IfThere}
use Rattle.loft_tree.specs.KindOf.{builtin_kind, compares}
use Rattle.loft_tree.specs.NamedFits.{OperandsAgree}
use Rattle.loft_scopes.specs.Modules.{next_module}
use Rattle.loft_scopes.specs.declared.scope.Scope.{Scope}
use Rattle.loft_scopes.specs.declared.scope.Scope.TheVariants.{Everywhere, Within}
use Rattle.loft_scopes.specs.Scopes.{Sort, AScheduler, AnEvent, AShared, AModule, AStart, AVariable, Declared, declared, seen_together, meaning}

-- ---- declarations

-- two declarations that can both be seen somewhere have different names
abbrev pub NamesApart : List Declared → Type 0
NamesApart ds =
    (i j : ℕ) (d e : Declared) → slice_get ds i ≡ Some d → slice_get ds j ≡ Some e
    → IsTrue (seen_together d.scope e.scope) → d.name.text ≡ e.name.text → i ≡ j

-- the declarations of the program, and where its names are used
module _ (ds : List Declared) (scope : Scope) where
  -- the name means a declaration of this sort
  pub record MeansA (sort : Sort) (name : Ident) : Type 0 where
    pub declaration : Declared
    pub means : meaning ds scope name ≡ Some declaration
    pub sorted : declaration.sort ≡ sort

  abbrev pub MeansEvent : EventName → Type 0
  MeansEvent event = MeansA AnEvent event.name

  -- a parameter or a local variable of this kind, or a shared variable, which is an int
  abbrev pub IsVariable : Kind → Ident → Type 0
  IsVariable kind name = MeansA (AVariable kind) name ⊎ (MeansA AShared name × (kind ≡ Int))

  -- ---- expressions

  -- an expression of this kind: its names mean values, and each operator has operands of the kinds
  -- that it takes
  abbrev pub IsOfKind : Expression → Kind → Type 0
  IsOfKind (Number at value) kind = kind ≡ Int
  IsOfKind (Variable name) kind = IsVariable kind name
  IsOfKind (Special at builtin) kind = kind ≡ builtin_kind builtin
  IsOfKind (Unary at operator operand) kind = IsOfKind operand Int × (kind ≡ Int)
  IsOfKind (Binary operator left right) kind =
      OperandsAgree (compares operator) (IsOfKind left) (IsOfKind right) × (kind ≡ Int)

  abbrev pub IsInt : Expression → Type 0
  IsInt e = IsOfKind e Int

  -- of some kind
  abbrev pub HasSomeKind : Expression → Type 0
  HasSomeKind e = (kind : Kind) × IsOfKind e kind

  -- ---- calls

  -- as many arguments as parameters, each of its parameter's kind
  abbrev pub ArgumentsAgree : List Kind → List Expression → Type 0
  ArgumentsAgree [] [] = Unit {0}
  ArgumentsAgree [] (e ∷ es) = ⊥
  ArgumentsAgree (kind ∷ kinds) [] = ⊥
  ArgumentsAgree (kind ∷ kinds) (e ∷ es) = IsOfKind e kind × ArgumentsAgree kinds es

  -- a module is called, with the arguments that it takes
  abbrev pub CallAgrees : Ident → List Expression → Type 0
  CallAgrees called es = (kinds : List Kind) × MeansA (AModule kinds) called × ArgumentsAgree kinds es

  abbrev pub CreationAgrees : Creation → Type 0
  CreationAgrees c = MeansA AScheduler c.scheduler × CallAgrees c.called c.arguments

  -- ---- statements

  abbrev mutual
    pub StatementAgrees : Statement → Type 0
    StatementAgrees (Assign target value) = (kind : Kind) × IsVariable kind target × IsOfKind value kind
    StatementAgrees (AssignCreate target at creation) = IsVariable Thread target × CreationAgrees creation
    StatementAgrees (Create at creation) = CreationAgrees creation
    StatementAgrees (PrintText at line value) = IfThere HasSomeKind value
    StatementAgrees (PrintValue at value) = HasSomeKind value
    StatementAgrees (Cooperate at instants) = IfThere IsInt instants
    StatementAgrees (Generate at event value) = MeansEvent event × IfThere IsInt value
    StatementAgrees (Await at event limit) = MeansEvent event × IfThere IsInt limit
    StatementAgrees (Select at events limit) = Each MeansEvent events × IfThere IsInt limit
    StatementAgrees (Get at event index target) = MeansEvent event × IsInt index × IsVariable Int target
    StatementAgrees (Join at thread limit) = IsOfKind thread Thread × IfThere IsInt limit
    StatementAgrees (ControlThread at control thread scheduler) = IsOfKind thread Thread × MeansA AScheduler scheduler
    StatementAgrees (Broadcast at event value) = MeansEvent event × IfThere IsInt value
    StatementAgrees (Link at scheduler) = MeansA AScheduler scheduler
    StatementAgrees (Unlink at) = Unit {0}
    StatementAgrees (Run at called arguments) = CallAgrees called arguments
    StatementAgrees (Halt at) = Unit {0}
    StatementAgrees (If at test first second) = IsInt test × BodyAgrees first × BodyAgrees second
    StatementAgrees (While at test body) = IsInt test × BodyAgrees body
    StatementAgrees (Repeat at count body) = IsInt count × BodyAgrees body

    pub BodyAgrees : Statements → Type 0
    BodyAgrees Done = Unit {0}
    BodyAgrees (Then first rest) = StatementAgrees first × BodyAgrees rest

  -- ---- outside module bodies

  abbrev pub PlaceAgrees : PlaceName → Type 0
  PlaceAgrees (InScheduler name) = MeansA AScheduler name
  PlaceAgrees Unlinked = Unit {0}

  -- an argument of this kind: a number, or the thread that a start names so
  abbrev pub ArgumentIs : Argument → Kind → Type 0
  ArgumentIs (ANumber at value) kind = kind ≡ Int
  ArgumentIs (AName name) kind = MeansA AStart name × (kind ≡ Thread)

  abbrev pub OuterAgree : List Kind → List Argument → Type 0
  OuterAgree [] [] = Unit {0}
  OuterAgree [] (a ∷ args) = ⊥
  OuterAgree (kind ∷ kinds) [] = ⊥
  OuterAgree (kind ∷ kinds) (a ∷ args) = ArgumentIs a kind × OuterAgree kinds args

  -- a thread is made in a scheduler, of a module with the arguments that it takes
  abbrev pub MakesThread : Ident → Ident → List Argument → Type 0
  MakesThread scheduler called args =
      MeansA AScheduler scheduler × (kinds : List Kind) × MeansA (AModule kinds) called × OuterAgree kinds args

  abbrev pub OrderAgrees : Order → Type 0
  OrderAgrees (CreateThere scheduler called arguments) = MakesThread scheduler called arguments
  OrderAgrees (ControlThere control thread scheduler) = MeansA AStart thread × MeansA AScheduler scheduler
  OrderAgrees (BroadcastThere event value) = MeansEvent event

-- ---- programs

-- what a declaration uses, where the next module has this number
abbrev pub DeclarationAgrees : List Declared → ℕ → Declaration → Type 0
DeclarationAgrees ds number (Scheduler name) = Unit {0}
DeclarationAgrees ds number (Event name scheduler) = MeansA ds Everywhere AScheduler scheduler
DeclarationAgrees ds number (Shared name scheduler value) = MeansA ds Everywhere AScheduler scheduler
DeclarationAgrees ds number (Module head locals body) =
    PlaceAgrees ds (Within number) head.begin × IfThere (PlaceAgrees ds (Within number)) head.end
    × BodyAgrees ds (Within number) body
DeclarationAgrees ds number (Start scheduler called arguments name) =
    MakesThread ds Everywhere scheduler called arguments
DeclarationAgrees ds number (Outside name orders) = Each (OrderAgrees ds Everywhere) orders

abbrev pub UsesAgree : List Declared → ℕ → Source → Type 0
UsesAgree ds number [] = Unit {0}
UsesAgree ds number (d ∷ rest) = DeclarationAgrees ds number d × UsesAgree ds (next_module number d) rest

-- there is a scheduler, names that can be seen together differ, and each use is of what it has to be
pub record NamesHold (p : Source) : Type 0 where
  pub scheduler : (d : Declared) × Contains (declared p) d × (d.sort ≡ AScheduler)
  pub apart : NamesApart (declared p)
  pub uses : UsesAgree (declared p) 0 p
