-- Threads that stand in a program at a place (docs/SEMANTICS.md, "Stands").
use Rattle.std.specs.Prelude.{◌≡◌, ◌⊎◌, ℕ, zero, suc, ◌+◌, ◌≤◌, ℤ, pos, ◌≤ℤ◌, IsTrue, List, [], ◌∷◌, ◌++◌, length, reverse, Option, Some, None, slice_get}
use Rattle.std.specs.Option.{option_and_then}
use Rattle.loft_base.specs.declared.ids.ModuleId.{ModuleId}
use Rattle.loft_base.specs.declared.ids.ThreadId.{ThreadId}
use Rattle.loft_base.specs.declared.ids.Value.{Value}
use Rattle.loft_tree.specs.declared.heads.Place.{Place}
use Rattle.loft_tree.specs.declared.heads.Place.TheVariants.{Sched, Unlinked}
use Rattle.loft_tree.specs.declared.heads.Signature.{Signature}
use Rattle.loft_tree.specs.declared.heads.Heads.{Heads}
use Rattle.loft_tree.specs.HeadsFit.{agree, kinds_of}
use Rattle.loft_tree.specs.Resolved.{Exp, Pause, Cooperate, Await, Get, Join, Link, Unlink, Halt, Step, Do, Hold, Call, Choose, Loop, Times, Body, Empty, Then, Resolved}
use Rattle.loft_orders.specs.declared.thread.Wait.{Wait}
use Rattle.loft_orders.specs.declared.thread.Wait.TheVariants as wait
use Rattle.loft_orders.specs.declared.thread.Frame.{Frame}
use Rattle.loft_orders.specs.declared.thread.Thread.{Thread}
use Rattle.loft_sense.specs.declared.limits.TheConstants.{MAX_FRAMES}
use Rattle.loft_code.specs.Operations.{Operation, Line, Automata}
use Rattle.loft_code.specs.Operations as op
use Rattle.loft_sense.specs.Machine.{Prog, Tree, Code, heads}
use Rattle.loft_sense.specs.Tree.{first_some, at_stop, body_at}
use Rattle.loft_sense.specs.Code.{lines_at, stop_from}

-- what a stop of a module is
pub data StopKind : Type 0 where
  Begins : StopKind
  Pauses : (pause : Pause) → StopKind
  -- a `run`
  Calls : (called : ModuleId) → StopKind

-- a stop of a module: what it is, how many `repeat`s it stands in, and where a thread is linked after it
pub record StopAt : Type 0 where
  pub kind : StopKind
  pub depth : ℕ
  pub after : Place

-- ---- the stops of a source tree

abbrev pub begin_or_unlinked : Option Signature → Place
begin_or_unlinked None = Unlinked
begin_or_unlinked (Some m) = m.begin

abbrev pub end_or_unlinked : Option Signature → Place
end_or_unlinked None = Unlinked
end_or_unlinked (Some m) = m.end

-- where a module begins, and where it ends
abbrev pub begin_of : Heads → ModuleId → Place
begin_of h m = begin_or_unlinked (slice_get h.modules m.0)

abbrev pub end_of : Heads → ModuleId → Place
end_of h m = end_or_unlinked (slice_get h.modules m.0)

-- where a thread is linked after a stop that it begins at p
abbrev pub place_after : Pause → Place → Place
place_after (Link s) p = Sched s
place_after Unlink p = Unlinked
place_after pause p = p

-- The same of a statement and of a body; both branches of an `if` end in one place, and a loop ends where it began.
abbrev mutual
  pub leads_step : Heads → Step → Place → Place
  leads_step h (Hold k pause) p = place_after pause p
  leads_step h (Call k m arguments) p = end_of h m
  leads_step h (Choose test first second) p = leads h first p
  leads_step h s p = p

  pub leads : Heads → Body → Place → Place
  leads h Empty p = p
  leads h (Then s rest) p = leads h rest (leads_step h s p)

-- stop k of a statement or a body that begins at p, inside so many `repeat`s
abbrev mutual
  pub stop_in_step : Heads → Step → ℕ → ℕ → Place → Option StopAt
  stop_in_step h (Do action) k depth p = None
  stop_in_step h (Hold here pause) k depth p = at_stop here k (record { kind = Pauses pause; depth = depth; after = place_after pause p })
  stop_in_step h (Call here m arguments) k depth p = at_stop here k (record { kind = Calls m; depth = depth; after = end_of h m })
  stop_in_step h (Choose test first second) k depth p = first_some (stop_in h first k depth p) (stop_in h second k depth p)
  stop_in_step h (Loop test body) k depth p = stop_in h body k depth p
  stop_in_step h (Times count body) k depth p = stop_in h body k (depth + 1) p

  pub stop_in : Heads → Body → ℕ → ℕ → Place → Option StopAt
  stop_in h Empty k depth p = None
  stop_in h (Then s rest) k depth p = first_some (stop_in_step h s k depth p) (stop_in h rest k depth (leads_step h s p))

-- a module's begin counts as its stop 0
abbrev pub tree_stop : Resolved → ModuleId → ℕ → Option StopAt
tree_stop p m zero = Some (record { kind = Begins; depth = 0; after = begin_of p.heads m })
tree_stop p m (suc k) = stop_in p.heads (body_at p m) (suc k) 0 (begin_of p.heads m)

-- ---- the stops of code

abbrev pub kind_of : Operation → Option StopKind
kind_of (op.Hold k pause) = Some (Pauses pause)
kind_of (op.Call k m arguments) = Some (Calls m)
kind_of operation = None

-- a stop of this kind, after which a thread goes on at this operation
abbrev pub stop_before : Option StopKind → Option Line → Option StopAt
stop_before None next = None
stop_before (Some kind) None = None
stop_before (Some kind) (Some next) = Some (record { kind = kind; depth = next.depth; after = next.place })

-- operation p as a stop
abbrev pub stop_at_line : List Line → Option ℕ → Option StopAt
stop_at_line lines None = None
stop_at_line lines (Some p) = stop_before (option_and_then (λ l. kind_of l.operation) (slice_get lines p)) (slice_get lines (p + 1))

abbrev pub line_stop : List Line → ℕ → Option StopAt
line_stop lines zero = stop_before (Some Begins) (slice_get lines 0)
line_stop lines (suc k) = stop_at_line lines (stop_from 0 lines (suc k))

abbrev pub code_stop : Automata → ModuleId → ℕ → Option StopAt
code_stop c m k = line_stop (lines_at c m) k

-- ---- threads

abbrev pub program_stop : Prog → ModuleId → ℕ → Option StopAt
program_stop (Tree p) m k = tree_stop p m k
program_stop (Code c) m k = code_stop c m k

-- a number left, where there is one, isn't negative, and there is one exactly where the statement gives one
abbrev pub LeftAgrees : Option Exp → Option ℤ → Type 0
LeftAgrees None None = Unit {0}
LeftAgrees (Some e) (Some n) = pos 0 ≤ℤ n
LeftAgrees limit left = ⊥

-- a thread that stands at the stop may wait so
abbrev pub PauseAgrees : Pause → Wait → Type 0
PauseAgrees (Cooperate instants) w = (left : ℤ) × (w ≡ wait.Coop left) × (pos 0 ≤ℤ left)
PauseAgrees (Await events limit) w = (left : Option ℤ) × (w ≡ wait.Events events left) × LeftAgrees limit left
PauseAgrees (Get event index target) w = (w ≡ wait.Next) ⊎ ((i : ℤ) × (w ≡ wait.Index event i))
PauseAgrees (Join thread limit) w = (t : ThreadId) × (left : Option ℤ) × (w ≡ wait.Join t left) × LeftAgrees limit left
PauseAgrees (Link s) w = w ≡ wait.New
PauseAgrees Unlink w = w ≡ wait.New
PauseAgrees Halt w = w ≡ wait.Halt

abbrev pub WaitAgrees : StopKind → Wait → Type 0
WaitAgrees Begins w = w ≡ wait.New
WaitAgrees (Pauses pause) w = PauseAgrees pause w
WaitAgrees (Calls m) w = ⊥

-- the module is declared, and the values agree with its parameters and local variables
abbrev pub ValuesAgree : Option Signature → List Value → Type 0
ValuesAgree None values = ⊥
ValuesAgree (Some m) values = IsTrue (agree (kinds_of m.parameters ++ kinds_of m.locals) values)

-- a frame that stands at this stop: a count for each `repeat` around it
pub record FrameStands (x : Prog) (f : Frame) (at : StopAt) : Type 0 where
  pub stop : program_stop x f.module f.stop ≡ Some at
  pub counts : length f.counts ≡ at.depth
  pub values : ValuesAgree (slice_get (heads x).modules f.module.0) f.values

-- a frame stands at a `run` of this module
abbrev pub FrameCalls : Prog → ModuleId → Frame → Type 0
FrameCalls x m f = (at : StopAt) × FrameStands x f at × (at.kind ≡ Calls m)

-- outer frames, innermost first: each stands at a `run` of the module of the next one inwards
abbrev pub OuterStand : Prog → ModuleId → List Frame → Type 0
OuterStand x m [] = Unit {0}
OuterStand x m (f ∷ fs) = FrameCalls x m f × OuterStand x f.module fs

-- frames, innermost first: the innermost stands at a stop with this wait, after which the thread is at the place
abbrev pub FramesStand : Prog → Wait → Place → List Frame → Type 0
FramesStand x w place [] = ⊥
FramesStand x w place (f ∷ fs) =
    ((at : StopAt) × FrameStands x f at × WaitAgrees at.kind w × (at.after ≡ place)) × OuterStand x f.module fs

-- the thread stands in the program, and is at the place
pub record Stands (x : Prog) (t : Thread) (place : Place) : Type 0 where
  pub few : length t.frames ≤ MAX_FRAMES
  pub frames : FramesStand x t.wait place (reverse t.frames)
