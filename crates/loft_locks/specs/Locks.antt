-- Programs with locks: their modules, who is inside, and which pairs stand (docs/LOCKS.md, "Inside" and "Pairs").
use Rattle.std.specs.Prelude.{◌≡◌, ◌≢◌, ◌⊎◌, ℕ, zero, suc, ◌==◌, pos, Bool, true, false, ◌||◌, List, [], ◌∷◌, Option, Some, None, slice_get, if◌then◌else◌}
use Rattle.loft_base.specs.declared.ids.SchedId.{SchedId}
use Rattle.loft_base.specs.declared.ids.EventId.{EventId}
use Rattle.loft_base.specs.declared.ids.SharedId.{SharedId}
use Rattle.loft_base.specs.declared.ids.ModuleId.{ModuleId}
use Rattle.loft_tree.specs.declared.heads.Place.TheVariants.{Sched}
use Rattle.loft_tree.specs.declared.heads.SharedHead.{SharedHead}
use Rattle.loft_tree.specs.declared.heads.Start.{Start}
use Rattle.loft_tree.specs.declared.heads.ClientOrder.{ClientOrder}
use Rattle.loft_tree.specs.declared.heads.ClientOrder.TheVariants as client
use Rattle.loft_tree.specs.Fits.{Each, IfThere}
use Rattle.loft_tree.specs.Resolved.{Number, Shared, Target, ToSlot, ToShared, Action, Assign, Make, PrintText, PrintValue, Generate, ControlThread, Broadcast, Pause, Cooperate, Await, Get, Join, Link, Unlink, Halt, Step, Do, Hold, Call, Choose, Loop, Times, Body, Empty, Then, Resolved}
use Rattle.loft_orders.specs.declared.thread.Frame.{Frame}
use Rattle.loft_orders.specs.declared.thread.Thread.{Thread}
use Rattle.loft_sense.specs.Tree.{first_some, at_stop, body_at}
use Rattle.loft_sense.specs.Stands.{begin_of, end_of}

-- what the first form of a lock declares, by its numbers
pub record Lock : Type 0 where
  pub at : SchedId
  pub held : SharedId
  pub free : EventId
  -- the modules that take the lock and that give it back
  pub takes : ModuleId
  pub gives : ModuleId

-- `module lock_l() in A while (held_l) do await free_l; if (held_l) then cooperate; end end held_l = 1; end`
abbrev pub lock_body : Lock → Body
lock_body l =
    Then (Loop (Shared l.held) (Then (Hold 1 (Await (l.free ∷ []) None)) (Then (Choose (Shared l.held) (Then (Hold 2 (Cooperate None)) Empty) Empty) Empty)))
    (Then (Do (Assign (ToShared l.held) (Number (pos 1)))) Empty)

-- `module unlock_l() in A held_l = 0; generate free_l; end`
abbrev pub unlock_body : Lock → Body
unlock_body l = Then (Do (Assign (ToShared l.held) (Number (pos 0)))) (Then (Do (Generate l.free None)) Empty)

-- what a `run` of a module is to a lock
pub data LockCall : Type 0 where
  Takes : LockCall
  Gives : LockCall
  Other : LockCall

abbrev pub call_of : Lock → ModuleId → LockCall
call_of l m = if m.0 == l.takes.0 then Takes else (if m.0 == l.gives.0 then Gives else Other)

-- ---- inside a pair

-- whether what follows a `run` stands inside a pair, where it does so or doesn't
abbrev pub after_call : LockCall → Bool → Bool
after_call Takes inside = true
after_call Gives inside = false
after_call Other inside = inside

-- the two `run`s of a pair don't stand inside it
abbrev pub at_call : LockCall → Bool → Bool
at_call Takes inside = false
at_call Gives inside = false
at_call Other inside = inside

-- whether the statement after this one stands inside a pair, where this one does so or doesn't
abbrev pub inside_after : Lock → Bool → Step → Bool
inside_after l inside (Do action) = inside
inside_after l inside (Hold k pause) = inside
inside_after l inside (Call k m arguments) = after_call (call_of l m) inside
inside_after l inside (Choose test first second) = inside
inside_after l inside (Loop test body) = inside
inside_after l inside (Times count body) = inside

-- Whether stop k of a statement or a body stands inside a pair, where the statement does so or doesn't; nothing where it isn't
-- in it. The bodies of a statement that stands inside a pair belong to it.
abbrev mutual
  pub inside_step : Lock → Bool → Step → ℕ → Option Bool
  inside_step l inside (Do action) k = None
  inside_step l inside (Hold here pause) k = at_stop here k inside
  inside_step l inside (Call here m arguments) k = at_stop here k (at_call (call_of l m) inside)
  inside_step l inside (Choose test first second) k = first_some (inside_body l inside first k) (inside_body l inside second k)
  inside_step l inside (Loop test body) k = inside_body l inside body k
  inside_step l inside (Times count body) k = inside_body l inside body k

  pub inside_body : Lock → Bool → Body → ℕ → Option Bool
  inside_body l inside Empty k = None
  inside_body l inside (Then s rest) k = first_some (inside_step l inside s k) (inside_body l (inside_after l inside s) rest k)

abbrev pub or_false : Option Bool → Bool
or_false None = false
or_false (Some b) = b

-- whether a frame that stands at stop k of module m stands inside a pair; the begin, which counts as stop 0, doesn't
abbrev pub inside_at : Resolved → Lock → ModuleId → ℕ → Bool
inside_at p l m zero = false
inside_at p l m (suc k) = or_false (inside_body l false (body_at p m) (suc k))

abbrev pub has_inside : Resolved → Lock → List Frame → Bool
has_inside p l [] = false
has_inside p l (f ∷ fs) = inside_at p l f.module f.stop || has_inside p l fs

-- the thread is inside: one of its frames stands inside a pair
abbrev pub is_inside : Resolved → Lock → Thread → Bool
is_inside p l t = has_inside p l t.frames

-- ---- modules that leave

-- whether it is a `link` or an `unlink`
abbrev pub is_away : Pause → Bool
is_away (Cooperate instants) = false
is_away (Await events limit) = false
is_away (Get event index target) = false
is_away (Join thread limit) = false
is_away (Link s) = true
is_away Unlink = true
is_away Halt = false

abbrev pub IsAway : Pause → Type 0
IsAway pause = is_away pause ≡ true

-- a statement or a body that is, or has in it, a `link` or an `unlink`
abbrev mutual
  pub StepLeaves : Step → Type 0
  StepLeaves (Do action) = ⊥
  StepLeaves (Hold k pause) = IsAway pause
  StepLeaves (Call k m arguments) = ⊥
  StepLeaves (Choose test first second) = BodyLeaves first ⊎ BodyLeaves second
  StepLeaves (Loop test body) = BodyLeaves body
  StepLeaves (Times count body) = BodyLeaves body

  pub BodyLeaves : Body → Type 0
  BodyLeaves Empty = ⊥
  BodyLeaves (Then s rest) = StepLeaves s ⊎ BodyLeaves rest

-- the same of a `run` of module c
abbrev mutual
  pub StepCalls : Step → ModuleId → Type 0
  StepCalls (Do action) c = ⊥
  StepCalls (Hold k pause) c = ⊥
  StepCalls (Call k m arguments) c = m ≡ c
  StepCalls (Choose test first second) c = BodyCalls first c ⊎ BodyCalls second c
  StepCalls (Loop test body) c = BodyCalls body c
  StepCalls (Times count body) c = BodyCalls body c

  pub BodyCalls : Body → ModuleId → Type 0
  BodyCalls Empty c = ⊥
  BodyCalls (Then s rest) c = StepCalls s c ⊎ BodyCalls rest c

-- a module that has a `link` or an `unlink` in it, or a `run` of such a module
pub data Leaves (p : Resolved) : ModuleId → Type 0 where
  itself : (m : ModuleId) → BodyLeaves (body_at p m) → Leaves p m
  through : (m c : ModuleId) → BodyCalls (body_at p m) c → Leaves p c → Leaves p m

-- ---- expanded programs

module _ (l : Lock) where
  -- nobody but the two modules of the lock sets its variable
  abbrev pub TargetKeeps : Target → Type 0
  TargetKeeps (ToSlot slot) = Unit {0}
  TargetKeeps (ToShared x) = x.0 ≢ l.held.0

  -- nobody names these modules but by a `run`
  abbrev pub ActionKeeps : Action → Type 0
  ActionKeeps (Assign target value) = TargetKeeps target
  ActionKeeps (Make target s m arguments) = IfThere TargetKeeps target × (call_of l m ≡ Other)
  ActionKeeps (PrintText line value) = Unit {0}
  ActionKeeps (PrintValue value) = Unit {0}
  ActionKeeps (Generate event value) = Unit {0}
  ActionKeeps (ControlThread control thread s) = Unit {0}
  ActionKeeps (Broadcast event value) = Unit {0}

  abbrev pub PauseKeeps : Pause → Type 0
  PauseKeeps (Cooperate instants) = Unit {0}
  PauseKeeps (Await events limit) = Unit {0}
  PauseKeeps (Get event index target) = TargetKeeps target
  PauseKeeps (Join thread limit) = Unit {0}
  PauseKeeps (Link s) = Unit {0}
  PauseKeeps Unlink = Unit {0}
  PauseKeeps Halt = Unit {0}

-- inside a pair nothing leaves
abbrev pub PauseStays : Bool → Pause → Type 0
PauseStays false pause = Unit {0}
PauseStays true pause = IsAway pause → ⊥

abbrev pub CallStays : Resolved → Bool → ModuleId → Type 0
CallStays p false m = Unit {0}
CallStays p true m = Leaves p m → ⊥

-- a `run` in a body that stands inside a pair or doesn't: a pair begins and ends in one body, and there is none in another
abbrev pub CallPairs : Bool → Bool → LockCall → Type 0
CallPairs outer inside Takes = (outer ≡ false) × (inside ≡ false)
CallPairs outer inside Gives = (outer ≡ false) × (inside ≡ true)
CallPairs outer inside Other = Unit {0}

-- A statement that stands inside a pair or doesn't, of a body that does so or doesn't, and a body from such a statement on.
abbrev mutual
  pub StepPairs : Resolved → Lock → Bool → Bool → Step → Type 0
  StepPairs p l outer inside (Do action) = ActionKeeps l action
  StepPairs p l outer inside (Hold k pause) = PauseKeeps l pause × PauseStays inside pause
  StepPairs p l outer inside (Call k m arguments) = CallPairs outer inside (call_of l m) × CallStays p (at_call (call_of l m) inside) m
  StepPairs p l outer inside (Choose test first second) = BodyPairs p l inside inside first × BodyPairs p l inside inside second
  StepPairs p l outer inside (Loop test body) = BodyPairs p l inside inside body
  StepPairs p l outer inside (Times count body) = BodyPairs p l inside inside body

  pub BodyPairs : Resolved → Lock → Bool → Bool → Body → Type 0
  BodyPairs p l outer inside Empty = inside ≡ outer
  BodyPairs p l outer inside (Then s rest) = StepPairs p l outer inside s × BodyPairs p l outer (inside_after l inside s) rest

-- a client of the source makes no thread that runs a module of the lock
abbrev pub OrderKeeps : Lock → ClientOrder → Type 0
OrderKeeps l (client.Create s m arguments) = call_of l m ≡ Other
OrderKeeps l (client.Control control t s) = Unit {0}
OrderKeeps l (client.Broadcast event value) = Unit {0}

-- A program in which a lock was expanded: its variable, its event and its two modules are those of the form, and each other
-- module runs them in pairs, which nothing inside leaves.
pub record IsExpanded (p : Resolved) (l : Lock) : Type 0 where
  pub variable : SharedHead
  pub declared : slice_get p.heads.shared l.held.0 ≡ Some variable
  pub there : variable.scheduler ≡ l.at
  pub begins : variable.value ≡ pos 0
  pub takes : slice_get p.bodies l.takes.0 ≡ Some (lock_body l)
  pub gives : slice_get p.bodies l.gives.0 ≡ Some (unlock_body l)
  pub takes_there : (begin_of p.heads l.takes ≡ Sched l.at) × (end_of p.heads l.takes ≡ Sched l.at)
  pub gives_there : (begin_of p.heads l.gives ≡ Sched l.at) × (end_of p.heads l.gives ≡ Sched l.at)
  pub others : (m : ModuleId) → call_of l m ≡ Other → BodyPairs p l false false (body_at p m)
  pub starts : Each (λ (t : Start). call_of l t.module ≡ Other) p.heads.starts
  pub clients : Each (λ c. Each (OrderKeeps l) c.orders) p.heads.clients
