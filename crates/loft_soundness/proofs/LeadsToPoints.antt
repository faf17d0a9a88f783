-- What the laws of points ask of a program: from each of its points a thread goes on at such points.
use Rattle.std.specs.Prelude.{◌≡◌, ℕ, suc, ℤ, List, length, Option, Some, slice_get}
use Rattle.loft_base.specs.declared.ids.ModuleId.{ModuleId}
use Rattle.loft_tree.specs.declared.kinds.Kind.{Kind}
use Rattle.loft_tree.specs.declared.kinds.Kind.TheVariants.{Int}
use Rattle.loft_tree.specs.declared.heads.Place.{Place}
use Rattle.loft_tree.specs.declared.heads.Signature.{Signature}
use Rattle.loft_tree.specs.declared.heads.Heads.{Heads}
use Rattle.loft_tree.specs.Fits.{IfThere}
use Rattle.loft_tree.specs.NamedFits.{slots_of}
use Rattle.loft_tree.specs.Resolved.{Pause, Cooperate, Await, Get, Join, Link, Unlink, Halt}
use Rattle.loft_sense.specs.Statements.{target_of}
use Rattle.loft_sense.specs.Machine.{Prog, heads}
use Rattle.loft_sense.specs.Run.{Next, Finish, Stuck, Acts, Advances, Tests, Counts, Holds, Runs}
use Rattle.loft_sense.specs.Stands.{StopKind, Begins, Pauses, Calls, StopAt, begin_of, end_of, place_after, program_stop}
use Rattle.loft_soundness.specs.WellFormed.{PointOf, control}
use Rattle.loft_soundness.specs.WorkFits.{TargetHasKind, PauseFits, NextFits}
use Rattle.loft_soundness.specs.Points.{PointIsAt}

-- ---- stops

abbrev pub the_stop : StopKind → ℕ → Place → StopAt
the_stop kind depth q = record { kind = kind; depth = depth; after = q }

-- the stop that a module's begin is
abbrev pub begin_stop : Heads → ModuleId → StopAt
begin_stop h m = the_stop Begins 0 (begin_of h m)

-- at a place after a stop: the variable that is set as the wait ends; where the module that is run ends
abbrev pub KindFits : Heads → List Kind → StopKind → Place → Type 0
KindFits h slots Begins q = Unit {0}
KindFits h slots (Pauses pause) q = IfThere (TargetHasKind h slots q Int) (target_of (Some pause))
KindFits h slots (Calls m) q = q ≡ end_of h m

pub target_fits : (h : Heads) (slots : List Kind) (pause : Pause) (p : Place) → PauseFits h slots p pause → KindFits h slots (Pauses pause) (place_after pause p)
target_fits h slots (Cooperate instants) p f = tt
target_fits h slots (Await events limit) p f = tt
target_fits h slots (Get event index target) p f = f.2
target_fits h slots (Join thread limit) p f = tt
target_fits h slots (Link s) p f = tt
target_fits h slots Unlink p f = tt
target_fits h slots Halt p f = tt

-- a stop of this kind waits for this
abbrev pub IsPauseOf : StopKind → Option Pause → Type 0
IsPauseOf Begins o = Unit {0}
IsPauseOf (Pauses pause) o = o ≡ Some pause
IsPauseOf (Calls m) o = Unit {0}

-- ---- a module with this signature

module _ (x : Prog) (m : ModuleId) (head : Signature) where
  -- stop k of this kind, where a thread is linked at q after it, and goes on there at p
  abbrev pub StopsAt : ℕ → StopKind → PointOf x → Place → Type 0
  StopsAt k kind p q = (program_stop x m k ≡ Some (the_stop kind (length ((control x).counts p)) q)) × PointIsAt x m head p q

  -- what comes next, where a thread is linked here, ends the module in its place or goes on at points of the module
  abbrev pub LeadsAt : Place → Next (PointOf x) → Type 0
  LeadsAt here Finish = here ≡ head.end
  LeadsAt here Stuck = ⊥
  LeadsAt here (Acts action p) = PointIsAt x m head p here
  LeadsAt here (Advances p) = PointIsAt x m head p here
  LeadsAt here (Tests test p q) = PointIsAt x m head p here × PointIsAt x m head q here
  LeadsAt here (Counts count f) = (n : ℤ) → PointIsAt x m head (f n) here
  LeadsAt here (Holds k pause p) = StopsAt k (Pauses pause) p (place_after pause here)
  LeadsAt here (Runs k called arguments p) = StopsAt k (Calls called) p (end_of (heads x) called)

  -- a point where a thread goes on after a stop
  pub record IsAfter (at : StopAt) (p : PointOf x) : Type 0 where
    pub there : PointIsAt x m head p at.after
    pub counts : length ((control x).counts p) ≡ at.depth
    pub kind : KindFits (heads x) (slots_of head) at.kind at.after

-- Each module that is declared begins at a point, goes on from points at points, and is taken up at points.
pub record LeadsToPoints (x : Prog) : Type 0 where
  -- what comes next at a point fits, and leads to points
  pub next : (m : ModuleId) (head : Signature) (p : PointOf x) (here : Place) → slice_get (heads x).modules m.0 ≡ Some head → PointIsAt x m head p here
      → NextFits (heads x) (slots_of head) here ((control x).next m p) × LeadsAt x m head here ((control x).next m p)
  -- the begin is a stop, and a thread begins at a point
  pub begins : (m : ModuleId) (head : Signature) → slice_get (heads x).modules m.0 ≡ Some head → program_stop x m 0 ≡ Some (begin_stop (heads x) m)
  pub starts : (m : ModuleId) (head : Signature) → slice_get (heads x).modules m.0 ≡ Some head → IsAfter x m head (begin_stop (heads x) m) ((control x).start m)
  -- after a stop, with as many counts as it has `repeat`s around it, a thread goes on at a point
  pub resumes : (m : ModuleId) (head : Signature) (k : ℕ) (counts : List ℤ) (at : StopAt) → slice_get (heads x).modules m.0 ≡ Some head
      → program_stop x m (suc k) ≡ Some at → length counts ≡ at.depth → IsAfter x m head at ((control x).resume m (suc k) counts)
