-- Points of a run at which all is there that the thread asks for (docs/SEMANTICS.md, "Stands").
use Rattle.std.specs.Prelude.{◌≡◌, ◌≤◌, IsTrue, true, ℕ, List, [], ◌∷◌, length, Some, None, slice_get}
use Rattle.loft_base.specs.declared.ids.ModuleId.{ModuleId}
use Rattle.loft_base.specs.declared.ids.SchedId.{SchedId}
use Rattle.loft_base.specs.declared.ids.Value.{Value}
use Rattle.loft_tree.specs.declared.kinds.Kind.{Kind}
use Rattle.loft_tree.specs.declared.heads.Place.{Place}
use Rattle.loft_tree.specs.declared.heads.Place.TheVariants.{Sched, Unlinked}
use Rattle.loft_tree.specs.declared.heads.Signature.{Signature}
use Rattle.loft_tree.specs.declared.heads.Heads.{Heads}
use Rattle.loft_tree.specs.Fits.{Each}
use Rattle.loft_tree.specs.HeadsFit.{is_of, HeadsFit}
use Rattle.loft_tree.specs.NamedFits.{IsPlace, slots_of}
use Rattle.loft_tree.specs.Resolved.{Resolved}
use Rattle.loft_code.specs.Operations.{Line, Automata, way, is_turn}
use Rattle.loft_code.specs.Leads.{IsReached}
use Rattle.loft_orders.specs.declared.note.Act.{Act}
use Rattle.loft_orders.specs.declared.note.Act.TheVariants as act
use Rattle.loft_orders.specs.declared.order.Order.{Order}
use Rattle.loft_orders.specs.declared.order.Order.TheVariants as order
use Rattle.loft_orders.specs.declared.order.To.{To}
use Rattle.loft_orders.specs.declared.order.To.TheVariants as to
use Rattle.loft_orders.specs.declared.thread.Thread.{Thread}
use Rattle.loft_orders.specs.declared.thread.Wait.TheVariants.{New}
use Rattle.loft_sense.specs.declared.limits.TheConstants.{MAX_FRAMES}
use Rattle.loft_sense.specs.Heads.{shared_values}
use Rattle.loft_sense.specs.Around.{Around, Beside}
use Rattle.loft_sense.specs.Machine.{Prog, Tree, Code, heads}
use Rattle.loft_sense.specs.Run.{Control, Active, Outcome, Held, Left, Ended, frame_of, live, step_on}
use Rattle.loft_sense.specs.Tree.{Work}
use Rattle.loft_sense.specs.Code.{Point, lines_at, landing, jump_of}
use Rattle.loft_sense.specs.Stands.{end_of, tree_stop, FrameCalls, Stands}
use Rattle.loft_sense.specs.Fits.{IsThread, IsValue, ThreadNames, EndNames, IsEventOf}
use Rattle.loft_soundness.specs.WellFormed.{PointOf, control}
use Rattle.loft_soundness.specs.WorkFits.{NextFits, WorkFits}
use Rattle.loft_soundness.specs.WorkAgrees.{WorkAgrees}

-- a value of this kind, and a thread only if it is declared
abbrev pub ValueFits : Heads → Kind → Value → Type 0
ValueFits h kind v = IsTrue (is_of v kind) × IsValue h v

-- a value for each of these kinds
abbrev pub ValuesFit : Heads → List Kind → List Value → Type 0
ValuesFit h [] [] = Unit {0}
ValuesFit h [] (v ∷ vs) = ⊥
ValuesFit h (kind ∷ kinds) [] = ⊥
ValuesFit h (kind ∷ kinds) (v ∷ vs) = ValueFits h kind v × ValuesFit h kinds vs

-- so many shared values are one for each shared variable of the place
abbrev pub HasValues : Heads → Place → ℕ → Type 0
HasValues h (Sched s) count = count ≡ length (shared_values h s)
HasValues h Unlinked count = Unit {0}

-- an order that a statement may send to a scheduler
abbrev pub SentOrderFits : Heads → SchedId → Order → Type 0
SentOrderFits h s (order.Create t m args) = IsThread h t × HeadsFit h s m args × Each (IsValue h) args
SentOrderFits h s (order.Arrive t) = ⊥
SentOrderFits h s (order.Stop t) = IsThread h t
SentOrderFits h s (order.Suspend t) = IsThread h t
SentOrderFits h s (order.Resume t) = IsThread h t
SentOrderFits h s (order.Broadcast e v) = IsEventOf h s e
SentOrderFits h s (order.Ended t end) = ⊥

-- statements send to one scheduler each
abbrev pub OutFits : Heads → To → Order → Type 0
OutFits h (to.Sched s) o = SentOrderFits h s o
OutFits h there o = ⊥

-- what was done: an order that is sent fits where it goes, and an end names what is declared
abbrev pub ActFits : Heads → Act → Type 0
ActFits h (act.Print t line) = Unit {0}
ActFits h (act.Gen t event value) = Unit {0}
ActFits h (act.Out t sent) = OutFits h sent.to sent.order
ActFits h (act.End t end) = IsThread h t × EndNames h end

-- What stands around a thread that is linked at this place: the place is declared, the board has room for each event, and what
-- was done in this instant so far fits.
pub record AroundFits (h : Heads) (place : Place) (around : Around) : Type 0 where
  pub declared : IsPlace h place
  pub there : around.place ≡ place
  pub board : length around.board ≡ length h.events
  pub acts : Each (ActFits h) around.acts

-- what stands beside the frames of such a thread, with so many shared values
pub record BesideFits (h : Heads) (place : Place) (count : ℕ) (b : Beside) : Type 0 where
  pub id : IsThread h b.id
  pub around : AroundFits h place b.around
  pub shared : length b.around.shared ≡ count

-- ---- points of a module

-- Work of a module with this signature that a thread begins where it is linked here: each statement fits where the thread is
-- then, the work ends where the module ends, and its stops are those of the module.
pub record WorkIsAt (p : Resolved) (m : ModuleId) (head : Signature) (w : List Work) (here : Place) : Type 0 where
  pub fits : WorkFits p.heads (slots_of head) w here head.end
  pub agrees : WorkAgrees p.heads (tree_stop p m) w here

-- A point of a module with this signature at which a thread goes on that is linked here. In code there is an operation, with
-- that place and with as many counts as its depth.
abbrev pub PointIsAt : (x : Prog) → ModuleId → Signature → PointOf x → Place → Type 0
PointIsAt (Tree p) m head w here = WorkIsAt p m head w here
PointIsAt (Code c) m head p here = IsReached (lines_at c m) here (way p.op (length p.counts))

-- ---- points of a run

-- A frame that goes on at this place: its module is declared, its values have the kinds of the module's parameters and local
-- variables, and its point is one of the module at this place.
pub record FrameFits (x : Prog) (place : Place) (r : Active (PointOf x)) : Type 0 where
  pub head : Signature
  pub declared : slice_get (heads x).modules r.module.0 ≡ Some head
  pub values : ValuesFit (heads x) (slots_of head) r.values
  pub at : PointIsAt x r.module head r.at place

-- frames below one of module m, innermost first: each stands at a `run` of the module of the one before it, and goes on where
-- that module ends
abbrev pub OuterFit : (x : Prog) → ModuleId → List (Active (PointOf x)) → Type 0
OuterFit x m [] = Unit {0}
OuterFit x m (r ∷ rs) = FrameCalls x m (frame_of (control x) r) × FrameFits x (end_of (heads x) m) r × OuterFit x r.module rs

abbrev pub FramesFit : (x : Prog) → Place → List (Active (PointOf x)) → Type 0
FramesFit x place [] = Unit {0}
FramesFit x place (r ∷ rs) = FrameFits x place r × OuterFit x r.module rs

-- a point of a run, with so many shared values
pub record PointFits (x : Prog) (place : Place) (count : ℕ) (b : Beside) (rs : List (Active (PointOf x))) : Type 0 where
  pub beside : BesideFits (heads x) place count b
  pub frames : FramesFit x place rs
  pub few : length rs ≤ MAX_FRAMES

-- What the innermost frame does next fits its values: each has the kind of its slot, and all that is named is there.
abbrev pub FrontFits : (x : Prog) → Place → List (Active (PointOf x)) → Type 0
FrontFits x place [] = Unit {0}
FrontFits x place (r ∷ rs) =
    (head : Signature) × (slice_get (heads x).modules r.module.0 ≡ Some head) × ValuesFit (heads x) (slots_of head) r.values
    × NextFits (heads x) (slots_of head) place ((control x).next r.module r.at)

-- The jumps at a point lead to an operation that is no jump, with the same place and depth. Where it is a `turn`, there is a
-- count.
pub record LandsOn (lines : List Line) (here : Place) (p : Point) : Type 0 where
  pub line : Line
  pub there : slice_get lines (landing lines p.op) ≡ Some line
  pub place : line.place ≡ here
  pub depth : line.depth ≡ length p.counts
  pub is_no_jump : jump_of line.operation ≡ None
  pub turn_counts : is_turn line.operation ≡ true → 1 ≤ length p.counts

-- the same of the innermost frame
abbrev pub FrontLands : Automata → Place → List (Active Point) → Type 0
FrontLands c place [] = Unit {0}
FrontLands c place (r ∷ rs) = LandsOn (lines_at c r.module) place r.at

-- A step from there goes on at none but these points: what a run would do at others makes no difference.
abbrev pub GoesOnlyTo : {A : Type 0} → Control A → (Beside → List (Active A) → Type 0) → Beside → List (Active A) → Type 0
GoesOnlyTo {A} c Fits b rs =
    (left : ℕ) (on other : Beside → List (Active A) → Outcome)
    → ((d : Beside) (qs : List (Active A)) → Fits d qs → on d qs ≡ other d qs)
    → step_on c left on b (live c rs) ≡ step_on c left other b (live c rs)

-- ---- how a run leaves a thread

-- the thread stands where it goes
abbrev pub StandsThere : Prog → Thread → To → Type 0
StandsThere x t (to.Sched s) = Stands x t (Sched s)
StandsThere x t (to.Others s) = ⊥
StandsThere x t to.All = ⊥
StandsThere x t to.Workers = Stands x t Unlinked

-- a run of a thread that was linked at this place
abbrev pub LeavesStanding : Prog → Place → Outcome → Type 0
LeavesStanding x place (Held t around left) = Stands x t place × ThreadNames (heads x) t × AroundFits (heads x) place around
LeavesStanding x place (Left t to around left) = (t.wait ≡ New) × StandsThere x t to × ThreadNames (heads x) t × AroundFits (heads x) place around
LeavesStanding x place (Ended end around left) = EndNames (heads x) end × AroundFits (heads x) place around
