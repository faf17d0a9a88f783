-- Statements and work that fit: each number is declared, kinds agree, and what is named is where the thread is linked
-- (docs/LANGUAGE.md, "Numbers of names" and "Links").
use Rattle.std.specs.Prelude.{◌≡◌, ◌≢◌, ◌<◌, List, [], ◌∷◌, length, Some, slice_get}
use Rattle.loft_base.specs.declared.ids.EventId.{EventId}
use Rattle.loft_base.specs.declared.ids.SharedId.{SharedId}
use Rattle.loft_base.specs.declared.ids.ModuleId.{ModuleId}
use Rattle.loft_tree.specs.declared.kinds.Kind.{Kind}
use Rattle.loft_tree.specs.declared.kinds.Kind.TheVariants.{Int, Thread}
use Rattle.loft_tree.specs.declared.heads.Place.{Place}
use Rattle.loft_tree.specs.declared.heads.Place.TheVariants.{Sched, Unlinked}
use Rattle.loft_tree.specs.declared.heads.EventHead.{EventHead}
use Rattle.loft_tree.specs.declared.heads.SharedHead.{SharedHead}
use Rattle.loft_tree.specs.declared.heads.Signature.{Signature}
use Rattle.loft_tree.specs.declared.heads.Heads.{Heads}
use Rattle.loft_tree.specs.Fits.{Each, IfThere}
use Rattle.loft_tree.specs.HeadsFit.{kinds_of}
use Rattle.loft_tree.specs.KindOf.{builtin_kind, compares}
use Rattle.loft_tree.specs.NamedFits.{IsScheduler, OperandsAgree}
use Rattle.loft_tree.specs.Resolved.{Exp, Number, Slot, Shared, Special, Unary, Binary, Target, ToSlot, ToShared, Action, Assign, Make, PrintText, PrintValue, Generate, ControlThread, Broadcast, Pause, Cooperate, Await, Get, Join, Link, Unlink, Halt, Step, Do, Hold, Call, Choose, Loop, Times, Body, Empty, Then}
use Rattle.loft_sense.specs.Run.{Next, Finish, Stuck, Acts, Advances, Tests, Counts, Holds, Runs}
use Rattle.loft_sense.specs.Tree.{Work, Begin, Again, Turns}
use Rattle.loft_sense.specs.Stands.{begin_of, leads_step, leads}

-- a shared variable that is declared, and stands here
abbrev pub IsShared : Heads → Place → SharedId → Type 0
IsShared h here x = (head : SharedHead) × (slice_get h.shared x.0 ≡ Some head) × (Sched head.scheduler ≡ here)

-- the same of an event
abbrev pub IsEvent : Heads → Place → EventId → Type 0
IsEvent h here e = (head : EventHead) × (slice_get h.events e.0 ≡ Some head) × (Sched head.scheduler ≡ here)

-- what a program declares, and the kinds of the slots of a module
module _ (h : Heads) (slots : List Kind) where
  -- a thread that is linked here
  module _ (here : Place) where
    abbrev pub IsLinked : Type 0
    IsLinked = here ≢ Unlinked

    -- an expression of this kind
    abbrev pub HasKind : Exp → Kind → Type 0
    HasKind (Number value) kind = kind ≡ Int
    HasKind (Slot slot) kind = slice_get slots slot ≡ Some kind
    HasKind (Shared x) kind = IsShared h here x × (kind ≡ Int)
    HasKind (Special builtin) kind = kind ≡ builtin_kind builtin
    HasKind (Unary operator operand) kind = HasKind operand Int × (kind ≡ Int)
    HasKind (Binary operator left right) kind = OperandsAgree (compares operator) (HasKind left) (HasKind right) × (kind ≡ Int)

    abbrev pub IsInt : Exp → Type 0
    IsInt e = HasKind e Int

    -- of some kind
    abbrev pub HasSomeKind : Exp → Type 0
    HasSomeKind e = (kind : Kind) × HasKind e kind

    -- a variable of this kind
    abbrev pub TargetHasKind : Kind → Target → Type 0
    TargetHasKind kind (ToSlot slot) = slice_get slots slot ≡ Some kind
    TargetHasKind kind (ToShared x) = IsShared h here x × (kind ≡ Int)

    -- as many arguments as parameters, each of its parameter's kind
    abbrev pub ArgumentsFit : List Kind → List Exp → Type 0
    ArgumentsFit [] [] = Unit {0}
    ArgumentsFit [] (e ∷ es) = ⊥
    ArgumentsFit (kind ∷ kinds) [] = ⊥
    ArgumentsFit (kind ∷ kinds) (e ∷ es) = HasKind e kind × ArgumentsFit kinds es

    -- the module is declared, and takes these arguments
    abbrev pub CallFits : ModuleId → List Exp → Type 0
    CallFits m arguments = (head : Signature) × (slice_get h.modules m.0 ≡ Some head) × ArgumentsFit (kinds_of head.parameters) arguments

    abbrev pub ActionFits : Action → Type 0
    ActionFits (Assign target e) = (kind : Kind) × TargetHasKind kind target × HasKind e kind
    ActionFits (Make target s m arguments) =
        IsLinked × IfThere (TargetHasKind Thread) target × IsScheduler h s × (begin_of h m ≡ Sched s) × CallFits m arguments
    ActionFits (PrintText line e) = IsLinked × IfThere HasSomeKind e
    ActionFits (PrintValue e) = IsLinked × HasSomeKind e
    ActionFits (Generate event e) = IsEvent h here event × IfThere IsInt e
    ActionFits (ControlThread control e s) = HasKind e Thread × IsScheduler h s
    ActionFits (Broadcast event e) = (event.0 < length h.events) × IfThere IsInt e

    abbrev pub PauseFits : Pause → Type 0
    PauseFits (Cooperate instants) = IsLinked × IfThere IsInt instants
    PauseFits (Await events limit) = Each (IsEvent h here) events × IfThere IsInt limit
    PauseFits (Get event index target) = IsEvent h here event × IsInt index × TargetHasKind Int target
    PauseFits (Join thread limit) = IsLinked × HasKind thread Thread × IfThere IsInt limit
    PauseFits (Link s) = IsScheduler h s
    PauseFits Unlink = IsLinked
    PauseFits Halt = IsLinked

    -- a `run` of this module
    abbrev pub RunFits : ModuleId → List Exp → Type 0
    RunFits m arguments = (begin_of h m ≡ here) × CallFits m arguments

    -- what comes next at a point
    abbrev pub NextFits : {A : Type 0} → Next A → Type 0
    NextFits Finish = Unit {0}
    NextFits Stuck = ⊥
    NextFits (Acts action rest) = ActionFits action
    NextFits (Advances rest) = Unit {0}
    NextFits (Tests test v u) = IsInt test
    NextFits (Counts count rest) = IsInt count
    NextFits (Holds k pause rest) = PauseFits pause
    NextFits (Runs k m arguments rest) = RunFits m arguments

  -- A statement and a body that a thread begins at p. Both branches of an `if` end in one place, and a loop ends where it began.
  abbrev mutual
    pub StepFits : Step → Place → Type 0
    StepFits (Do action) p = ActionFits p action
    StepFits (Hold k pause) p = PauseFits p pause
    StepFits (Call k m arguments) p = RunFits p m arguments
    StepFits (Choose test first second) p = IsInt p test × BodyFits first p × BodyFits second p × (leads h first p ≡ leads h second p)
    StepFits (Loop test body) p = IsInt p test × BodyFits body p × (leads h body p ≡ p)
    StepFits (Times count body) p = IsInt p count × BodyFits body p × (leads h body p ≡ p)

    pub BodyFits : Body → Place → Type 0
    BodyFits Empty p = Unit {0}
    BodyFits (Then s rest) p = StepFits s p × BodyFits rest (leads_step h s p)

  -- work that a thread begins at p, and after which it is linked at q
  abbrev pub WorkFits : List Work → Place → Place → Type 0
  WorkFits [] p q = p ≡ q
  WorkFits (Begin s ∷ w) p q = StepFits s p × WorkFits w (leads_step h s p) q
  WorkFits (Again test body ∷ w) p q = IsInt p test × BodyFits body p × (leads h body p ≡ p) × WorkFits w p q
  WorkFits (Turns count body ∷ w) p q = BodyFits body p × (leads h body p ≡ p) × WorkFits w p q
