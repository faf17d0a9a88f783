-- Where a thread is linked before and after each statement (docs/LANGUAGE.md, "Links").
use Rattle.std.specs.Prelude.{◌≡◌, ◌≢◌, ℕ, ◌⊎◌, Bool, true, false, List, [], ◌∷◌, ◌++◌, Option, Some, None, Result, MatchResult, slice_get}
use Rattle.loft_base.specs.declared.ids.SchedId.{SchedId}
use Rattle.loft_base.specs.declared.ids.SharedId.{SharedId}
use Rattle.loft_base.specs.declared.ids.ModuleId.{ModuleId}
use Rattle.loft_tree.specs.declared.heads.Place.{Place}
use Rattle.loft_tree.specs.declared.heads.Place.TheVariants.{Sched, Unlinked}
use Rattle.loft_tree.specs.declared.heads.EventHead.{EventHead}
use Rattle.loft_tree.specs.declared.heads.SharedHead.{SharedHead}
use Rattle.loft_tree.specs.declared.heads.Signature.{Signature}
use Rattle.loft_tree.specs.declared.heads.Start.{Start}
use Rattle.loft_tree.specs.declared.heads.ClientOrder.{ClientOrder}
use Rattle.loft_tree.specs.declared.heads.ClientOrder.TheVariants as order
use Rattle.loft_tree.specs.declared.heads.Client.{Client}
use Rattle.loft_tree.specs.declared.heads.Heads.{Heads}
use Rattle.loft_tree.specs.declared.named.Target.{Target}
use Rattle.loft_tree.specs.declared.named.Target.TheVariants as target
use Rattle.loft_tree.specs.declared.named.LinkItem.{LinkItem}
use Rattle.loft_tree.specs.declared.named.LinkItem.TheVariants as link
use Rattle.loft_tree.specs.NamedTree.{EventUse, NamedExpression, Number, Slot, Shared, Special, Unary, Binary, NamedCreation, NamedAction, Assign, Make, PrintText, PrintValue, Generate, ControlThread, Broadcast, NamedPause, Cooperate, Await, Get, Join, Link, Unlink, Halt, NamedStatement, Do, Hold, Run, If, While, Repeat, NamedStatements, Done, Then, NamedModule, NamedProgram}
use Rattle.loft_place.specs.declared.error.PlaceError.{PlaceError}
use Rattle.loft_place.specs.declared.error.PlaceError.TheVariants.{NotHere, Unlinked as NotUnlinked, Branches, LoopEnds, ModuleEnds}

-- ---- what stands where

-- where an event is, a shared variable, and where the threads of a module begin and end
abbrev pub event_home : Option EventHead → Place
event_home None = Unlinked
event_home (Some e) = Sched e.scheduler

abbrev pub shared_home : Option SharedHead → Place
shared_home None = Unlinked
shared_home (Some x) = Sched x.scheduler

abbrev pub begin_of : Option Signature → Place
begin_of None = Unlinked
begin_of (Some m) = m.begin

abbrev pub end_of : Option Signature → Place
end_of None = Unlinked
end_of (Some m) = m.end

-- ---- what a statement needs

-- what is named at the offset `at` of the text needs one place, and the thread is at another
pub record Need : Type 0 where
  pub at : ℕ
  pub needs : Place
  pub has : Place
  pub is_shared : Bool

-- The two places are one. A shared variable isn't allowed at all where the thread is linked nowhere.
abbrev pub IsThere : Place → Place → Bool → Type 0
IsThere needs has false = needs ≡ has
IsThere needs (Sched s) true = needs ≡ Sched s
IsThere needs Unlinked true = ⊥

abbrev pub IsMet : Need → Type 0
IsMet n = IsThere n.needs n.has n.is_shared

-- each of the needs is met
abbrev pub AreMet : List Need → Type 0
AreMet [] = Unit {0}
AreMet (n ∷ ns) = IsMet n × AreMet ns

-- the fault of a need that isn't met
abbrev pub fault_at : ℕ → Place → Place → Bool → PlaceError
fault_at at needs has false = NotHere at needs has
fault_at at needs (Sched s) true = NotHere at needs (Sched s)
fault_at at needs Unlinked true = NotUnlinked at

abbrev pub fault_of : Need → PlaceError
fault_of n = fault_at n.at n.needs n.has n.is_shared

-- the first of the needs that isn't met
abbrev pub FirstUnmet : List Need → PlaceError → Type 0
FirstUnmet [] e = ⊥
FirstUnmet (n ∷ ns) e = (¬ IsMet n × (e ≡ fault_of n)) ⊎ (IsMet n × FirstUnmet ns e)

-- an answer to needs: they are met, or the error is that of the first that isn't
abbrev pub IsAnswer : {A : Type 0} → List Need → Result A PlaceError → Type 0
IsAnswer ns r = MatchResult r (λ x. AreMet ns) (FirstUnmet ns)

-- a thread of a program with these heads, which is linked here
module _ (h : Heads) (here : Place) where
  abbrev pub shared_need : ℕ → SharedId → Need
  shared_need at shared = record { at = at; needs = shared_home (slice_get h.shared shared.0); has = here; is_shared = true }

  abbrev pub event_need : EventUse → Need
  event_need e = record { at = e.at; needs = event_home (slice_get h.events e.event.0); has = here; is_shared = false }

  -- `run` needs the place where the module begins
  abbrev pub run_need : ℕ → ModuleId → Need
  run_need at m = record { at = at; needs = begin_of (slice_get h.modules m.0); has = here; is_shared = false }

  -- the shared variables in an expression, from left to right
  abbrev pub term_needs : NamedExpression → List Need
  term_needs (Number value) = []
  term_needs (Slot slot) = []
  term_needs (Shared at shared) = shared_need at shared ∷ []
  term_needs (Special builtin) = []
  term_needs (Unary operator operand) = term_needs operand
  term_needs (Binary operator left right) = term_needs left ++ term_needs right

  abbrev pub value_needs : Option NamedExpression → List Need
  value_needs None = []
  value_needs (Some e) = term_needs e

  abbrev pub terms_needs : List NamedExpression → List Need
  terms_needs [] = []
  terms_needs (e ∷ es) = term_needs e ++ terms_needs es

  abbrev pub target_needs : Target → List Need
  target_needs (target.Slot slot) = []
  target_needs (target.Shared at shared) = shared_need at shared ∷ []

  -- the variable that a thread which is made is set to, if there is one
  abbrev pub made_needs : Option Target → List Need
  made_needs None = []
  made_needs (Some target) = target_needs target

  abbrev pub events_needs : List EventUse → List Need
  events_needs [] = []
  events_needs (e ∷ es) = event_need e ∷ events_needs es

-- `start` and `create` name the scheduler where the module begins
abbrev pub creation_need : Heads → ℕ → SchedId → ModuleId → Need
creation_need h at s m = record { at = at; needs = begin_of (slice_get h.modules m.0); has = Sched s; is_shared = false }

abbrev pub creation_needs : Heads → Place → NamedCreation → List Need
creation_needs h here m = creation_need h m.at m.scheduler m.«module» ∷ terms_needs h here m.arguments

-- what an action names, from left to right
abbrev pub action_needs : Heads → Place → NamedAction → List Need
action_needs h here (Assign target value) = target_needs h here target ++ term_needs h here value
action_needs h here (Make target creation) = made_needs h here target ++ creation_needs h here creation
action_needs h here (PrintText line value) = value_needs h here value
action_needs h here (PrintValue value) = term_needs h here value
action_needs h here (Generate event value) = event_need h here event ∷ value_needs h here value
action_needs h here (ControlThread control thread scheduler) = term_needs h here thread
action_needs h here (Broadcast event value) = value_needs h here value

-- the same of a pause
abbrev pub pause_needs : Heads → Place → NamedPause → List Need
pause_needs h here (Cooperate instants) = value_needs h here instants
pause_needs h here (Await events limit) = events_needs h here events ++ value_needs h here limit
pause_needs h here (Get event index target) = event_need h here event ∷ (term_needs h here index ++ target_needs h here target)
pause_needs h here (Join thread limit) = term_needs h here thread ++ value_needs h here limit
pause_needs h here (Link scheduler) = []
pause_needs h here Unlink = []
pause_needs h here Halt = []

-- the same of a statement, but for its bodies
abbrev pub needs_of : Heads → Place → NamedStatement → List Need
needs_of h here (Do at action) = action_needs h here action
needs_of h here (Hold at stop pause) = pause_needs h here pause
needs_of h here (Run at stop called m arguments) = run_need h here called m ∷ terms_needs h here arguments
needs_of h here (If at test first second) = term_needs h here test
needs_of h here (While at test body) = term_needs h here test
needs_of h here (Repeat at count body) = term_needs h here count

-- the offset of an action's word, if only a linked thread may meet it: one that makes a thread, prints or generates
abbrev pub linked_action : ℕ → NamedAction → Option ℕ
linked_action at (Assign target value) = None
linked_action at (Make target creation) = Some at
linked_action at (PrintText line value) = Some at
linked_action at (PrintValue value) = Some at
linked_action at (Generate event value) = Some at
linked_action at (ControlThread control thread scheduler) = None
linked_action at (Broadcast event value) = None

-- the same of a pause: any but `link`
abbrev pub linked_pause : ℕ → NamedPause → Option ℕ
linked_pause at (Cooperate instants) = Some at
linked_pause at (Await events limit) = Some at
linked_pause at (Get event index target) = Some at
linked_pause at (Join thread limit) = Some at
linked_pause at (Link scheduler) = None
linked_pause at Unlink = Some at
linked_pause at Halt = Some at

-- the offset of the word of a statement that only a linked thread may meet
abbrev pub linked_only : NamedStatement → Option ℕ
linked_only (Do at action) = linked_action at action
linked_only (Hold at stop pause) = linked_pause at pause
linked_only (Run at stop called m arguments) = None
linked_only (If at test first second) = None
linked_only (While at test body) = None
linked_only (Repeat at count body) = None

abbrev pub AllowedAt : Place → Option ℕ → Type 0
AllowedAt here None = Unit {0}
AllowedAt here (Some at) = here ≢ Unlinked

-- the place allows the statement, and what it names is there
pub record MayStand (h : Heads) (here : Place) (s : NamedStatement) : Type 0 where
  pub allowed : AllowedAt here (linked_only s)
  pub met : AreMet (needs_of h here s)

-- a statement that may not stand there, and why
abbrev pub MayNotStand : Heads → Place → NamedStatement → PlaceError → Type 0
MayNotStand h here s e =
    ((at : ℕ) × (linked_only s ≡ Some at) × (here ≡ Unlinked) × (e ≡ NotUnlinked at))
    ⊎ (AllowedAt here (linked_only s) × FirstUnmet (needs_of h here s) e)

-- ---- bodies

-- where a pause leaves a thread that is linked here
abbrev pub left_by_pause : Place → NamedPause → Place
left_by_pause here (Cooperate instants) = here
left_by_pause here (Await events limit) = here
left_by_pause here (Get event index target) = here
left_by_pause here (Join thread limit) = here
left_by_pause here (Link scheduler) = Sched scheduler
left_by_pause here Unlink = Unlinked
left_by_pause here Halt = here

-- A thread linked at p goes through the statement and is linked at q after it. Both branches of an `if` end in one place,
-- and a loop ends where it began.
abbrev mutual
  pub GoesThrough : Heads → Place → NamedStatement → Place → Type 0
  GoesThrough h p (Do at action) q = MayStand h p (Do at action) × (q ≡ p)
  GoesThrough h p (Hold at stop pause) q = MayStand h p (Hold at stop pause) × (q ≡ left_by_pause p pause)
  GoesThrough h p (Run at stop called m arguments) q = MayStand h p (Run at stop called m arguments) × (q ≡ end_of (slice_get h.modules m.0))
  GoesThrough h p (If at test first second) q = MayStand h p (If at test first second) × Goes h p first q × Goes h p second q
  GoesThrough h p (While at test body) q = MayStand h p (While at test body) × Goes h p body p × (q ≡ p)
  GoesThrough h p (Repeat at count body) q = MayStand h p (Repeat at count body) × Goes h p body p × (q ≡ p)

  -- the same of a body, one statement after the other
  pub Goes : Heads → Place → NamedStatements → Place → Type 0
  Goes h p Done q = q ≡ p
  Goes h p (Then first rest) q = (r : Place) × GoesThrough h p first r × Goes h r rest q

-- ---- faults of bodies

-- a loop, by the faults of its body and the places where that may end: the first fault, or its end isn't where it begins
abbrev pub LoopFault : (PlaceError → Type 0) → (Place → Type 0) → ℕ → Place → PlaceError → Type 0
LoopFault Faults Ends at p e = Faults e ⊎ ((end : Place) × Ends end × (end ≢ p) × (e ≡ LoopEnds at p end))

-- an `if`, by the same of its left branch and of its right one: the first fault, or they end in two places
abbrev pub BranchesFault : (PlaceError → Type 0) → (Place → Type 0) → (PlaceError → Type 0) → (Place → Type 0) → ℕ → PlaceError → Type 0
BranchesFault LeftFaults LeftEnds RightFaults RightEnds at e =
    LeftFaults e ⊎ ((left : Place) × LeftEnds left × (RightFaults e
    ⊎ ((right : Place) × RightEnds right × (left ≢ right) × (e ≡ Branches at left right))))

-- The first fault on the way through a statement from p: all before it is correct.
abbrev mutual
  pub FaultThrough : Heads → Place → NamedStatement → PlaceError → Type 0
  FaultThrough h p (Do at action) e = MayNotStand h p (Do at action) e
  FaultThrough h p (Hold at stop pause) e = MayNotStand h p (Hold at stop pause) e
  FaultThrough h p (Run at stop called m arguments) e = MayNotStand h p (Run at stop called m arguments) e
  FaultThrough h p (If at test first second) e =
      MayNotStand h p (If at test first second) e
      ⊎ (MayStand h p (If at test first second)
      × BranchesFault (FaultIn h p first) (Goes h p first) (FaultIn h p second) (Goes h p second) at e)
  FaultThrough h p (While at test body) e =
      MayNotStand h p (While at test body) e
      ⊎ (MayStand h p (While at test body) × LoopFault (FaultIn h p body) (Goes h p body) at p e)
  FaultThrough h p (Repeat at count body) e =
      MayNotStand h p (Repeat at count body) e
      ⊎ (MayStand h p (Repeat at count body) × LoopFault (FaultIn h p body) (Goes h p body) at p e)

  pub FaultIn : Heads → Place → NamedStatements → PlaceError → Type 0
  FaultIn h p Done e = ⊥
  FaultIn h p (Then first rest) e = FaultThrough h p first e ⊎ ((q : Place) × GoesThrough h p first q × FaultIn h q rest e)

-- ---- declarations

-- a module's body goes from its begin place to its end place
abbrev pub ModuleGoes : Heads → Option Signature → Option NamedModule → Type 0
ModuleGoes h None body = Unit {0}
ModuleGoes h (Some signature) None = Unit {0}
ModuleGoes h (Some signature) (Some m) = Goes h signature.begin m.body signature.end

-- the first fault of its body, or it ends elsewhere than the module declares
abbrev pub ModuleFault : Heads → Option Signature → Option NamedModule → PlaceError → Type 0
ModuleFault h None body e = ⊥
ModuleFault h (Some signature) None e = ⊥
ModuleFault h (Some signature) (Some m) e =
    FaultIn h signature.begin m.body e
    ⊎ ((end : Place) × Goes h signature.begin m.body end × (signature.end ≢ end) × (e ≡ ModuleEnds m.at signature.end end))

-- what a start needs, where the name of its scheduler stands at this offset
abbrev pub start_needs : Heads → ℕ → Option Start → List Need
start_needs h at None = []
start_needs h at (Some t) = creation_need h at t.scheduler t.module ∷ []

-- what an order of a client needs
abbrev pub order_needs : Heads → ℕ → Option ClientOrder → List Need
order_needs h at None = []
order_needs h at (Some (order.Create scheduler m arguments)) = creation_need h at scheduler m ∷ []
order_needs h at (Some (order.Control control thread scheduler)) = []
order_needs h at (Some (order.Broadcast event value)) = []

-- the order of a client with this number
abbrev pub order_at : Option Client → ℕ → Option ClientOrder
order_at None number = None
order_at (Some c) number = slice_get c.orders number

-- what a declaration has to do with links is correct
abbrev pub LinkHolds : Heads → List NamedModule → LinkItem → Type 0
LinkHolds h ms (link.Module m) = ModuleGoes h (slice_get h.modules m.0) (slice_get ms m.0)
LinkHolds h ms (link.Start at start) = AreMet (start_needs h at (slice_get h.starts start))
LinkHolds h ms (link.Create at client number) = AreMet (order_needs h at (order_at (slice_get h.clients client) number))

-- the fault of a declaration's links
abbrev pub LinkFault : Heads → List NamedModule → LinkItem → PlaceError → Type 0
LinkFault h ms (link.Module m) e = ModuleFault h (slice_get h.modules m.0) (slice_get ms m.0) e
LinkFault h ms (link.Start at start) e = FirstUnmet (start_needs h at (slice_get h.starts start)) e
LinkFault h ms (link.Create at client number) e = FirstUnmet (order_needs h at (order_at (slice_get h.clients client) number)) e

-- the same of all declarations
abbrev pub LinksHold : Heads → List NamedModule → List LinkItem → Type 0
LinksHold h ms [] = Unit {0}
LinksHold h ms (l ∷ ls) = LinkHolds h ms l × LinksHold h ms ls

-- the first fault, declarations in the order of the text
abbrev pub LinksFault : Heads → List NamedModule → List LinkItem → PlaceError → Type 0
LinksFault h ms [] e = ⊥
LinksFault h ms (l ∷ ls) e = LinkFault h ms l e ⊎ (LinkHolds h ms l × LinksFault h ms ls e)

-- the threads of the program are linked wherever its statements need it
abbrev pub IsPlaced : NamedProgram → Type 0
IsPlaced n = LinksHold n.heads n.modules n.links

-- the fault of a program's links
abbrev pub PlaceFault : NamedProgram → PlaceError → Type 0
PlaceFault n e = LinksFault n.heads n.modules n.links e
