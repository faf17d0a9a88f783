-- A thread that stands goes on at a point that fits.
use Rattle.std.proofs.Common.{◌≡◌, ℕ, zero, suc, ◌≤◌, List, [], ◌∷◌, map, reverse, length, Option, Some, None, slice_get, refl, sym, ◌∙◌, subst, arith}
use Rattle.std.specs.Prelude.{IsTrue}
use Rattle.std.proofs.lemmas.List.{length-reverse, length-map}
use Rattle.loft_base.specs.declared.ids.ModuleId.{ModuleId}
use Rattle.loft_base.specs.declared.ids.Value.{Value}
use Rattle.loft_tree.specs.declared.kinds.Kind.{Kind}
use Rattle.loft_tree.specs.declared.heads.Place.{Place}
use Rattle.loft_tree.specs.declared.heads.Signature.{Signature}
use Rattle.loft_tree.specs.declared.heads.Heads.{Heads}
use Rattle.loft_tree.specs.Fits.{Each}
use Rattle.loft_tree.specs.HeadsFit.{agree}
use Rattle.loft_tree.specs.NamedFits.{slots_of}
use Rattle.loft_tree.specs.Resolved.{Pause}
use Rattle.loft_code.specs.Operations.{Automata}
use Rattle.loft_orders.specs.declared.thread.Frame.{Frame}
use Rattle.loft_orders.specs.declared.thread.Thread.{Thread}
use Rattle.loft_orders.specs.declared.thread.Wait.{Wait}
use Rattle.loft_sense.specs.declared.limits.TheConstants.{MAX_FRAMES}
use Rattle.loft_sense.specs.Around.{Around, Beside}
use Rattle.loft_sense.specs.Statements.{answered}
use Rattle.loft_sense.specs.Machine.{Prog, Tree, Code, heads}
use Rattle.loft_sense.specs.Run.{Active, frame_of, point_of, active_of, actives_of, live, no_step, going, go_on, beside, go}
use Rattle.loft_sense.specs.Code.{Point, code}
use Rattle.loft_sense.specs.Passes.{run_of}
use Rattle.loft_sense.specs.Stands.{StopKind, Begins, Pauses, Calls, StopAt, end_of, program_stop, WaitAgrees, ValuesAgree, FrameStands, OuterStand, FramesStand, Stands}
use Rattle.loft_sense.specs.Fits.{FrameNames, ThreadNames}
use Rattle.loft_soundness.specs.WellFormed.{IsWellFormed, PointOf, control}
use Rattle.loft_soundness.specs.Points.{ValuesFit, AroundFits, BesideFits, PointIsAt, FrameFits, OuterFit, PointFits, FrontFits, FrontLands, GoesOnlyTo, LeavesStanding}
use Rattle.loft_soundness.proofs.ListLemmas.{each_reverse}
use Rattle.loft_soundness.proofs.ValueLemmas.{values_fit}
use Rattle.loft_soundness.proofs.EffectLemmas.{NowFits, answered_fits}
use Rattle.loft_soundness.proofs.LeadsToPoints.{begin_stop, KindFits, IsPauseOf, IsAfter, LeadsToPoints}
use Rattle.loft_soundness.proofs.CodeLemmas.{lands_on}
use Rattle.loft_soundness.proofs.ProgramLemmas.{leads_to_points, stop_pauses}
use Rattle.loft_soundness.proofs.PointLemmas.{control_of, live_point, next_there, goes_only, no_step_leaves, going_leaves}

-- the module of a frame is declared, and its values agree
head_of : (o : Option Signature) (vs : List Value) → ValuesAgree o vs → (head : Signature) × (o ≡ Some head) × IsTrue (agree (slots_of head) vs)
head_of None vs e = absurd e
head_of (Some head) vs e = (head, refl, e)

-- the wait is answered
answers : (h : Heads) (slots : List Kind) (place : Place) (count : ℕ) (kind : StopKind) (o : Option Pause) (w : Wait) (values : List Value) (b : Beside) → IsPauseOf kind o → KindFits h slots kind place → WaitAgrees kind w
    → ValuesFit h slots values → BesideFits h place count b → NowFits h slots place count (answered h o w values b)
answers h slots place count Begins o w values b is fit agrees vals bs = subst (λ u. NowFits h slots place count (answered h o u values b)) (sym agrees) (vals, bs)
answers h slots place count (Pauses pause) o w values b is fit agrees vals bs =
    subst (λ p. NowFits h slots place count (answered h p w values b)) (sym is) (answered_fits h slots place count values b vals bs (Some pause) w fit)
answers h slots place count (Calls m) o w values b is fit agrees vals bs = absurd agrees

beside_thread : (h : Heads) (t : Thread) (place : Place) (around : Around) → ThreadNames h t → AroundFits h place around → BesideFits h place (length around.shared) (beside t around)
beside_thread h t place around names fit = record { id = names.id; around = fit; shared = refl }

module _ (x : Prog) (leads : LeadsToPoints x) where
  -- ---- frames as they go on

  abbrev frame_again : Frame → Active (PointOf x)
  frame_again f = active_of (control_of x) f

  after_stop : (f : Frame) (head : Signature) (at : StopAt) (k : ℕ) → slice_get (heads x).modules f.module.0 ≡ Some head → program_stop x f.module k ≡ Some at → length f.counts ≡ at.depth
      → IsAfter x f.module head at (point_of (control_of x) f k)
  after_stop f head at zero declared e few =
      let begins : Some (begin_stop (heads x) f.module) ≡ Some at = sym (leads.begins f.module head declared) ∙ e in
      let same : begin_stop (heads x) f.module ≡ at = cc in
      subst (λ a. IsAfter x f.module head a ((control x).start f.module)) same (leads.starts f.module head declared)
  after_stop f head at (suc k) declared e few = leads.resumes f.module head k f.counts at declared e few

  record Woken (f : Frame) (at : StopAt) : Type 0 where
    frame : FrameFits x at.after (frame_again f)
    counts : length ((control x).counts (point_of (control_of x) f f.stop)) ≡ at.depth
    kind : KindFits (heads x) (slots_of frame.head) at.kind at.after

  wakes : (f : Frame) (at : StopAt) → FrameStands x f at → FrameNames (heads x) f → Woken f at
  wakes f at stands names =
      let head = head_of (slice_get (heads x).modules f.module.0) f.values stands.values in
      let left = after_stop f head.0 at f.stop head.1 stands.stop stands.counts in
      record {
        frame = record { head = head.0; declared = head.1; values = values_fit (heads x) (slots_of head.0) f.values head.2 names; at = left.there };
        counts = left.counts;
        kind = left.kind;
      }

  called_after : (m : ModuleId) (f : Frame) (at : StopAt) → at.kind ≡ Calls m → Woken f at → at.after ≡ end_of (heads x) m
  called_after m f at e w = subst (λ k. KindFits (heads x) (slots_of w.frame.head) k at.after) e w.kind

  outer_wakes : (m : ModuleId) (fs : List Frame) → OuterStand x m fs → Each (FrameNames (heads x)) fs → OuterFit x m (map (active_of (control_of x)) fs)
  outer_wakes m [] stand names = tt
  outer_wakes m (f ∷ fs) stand names =
      let at = stand.0.0 in
      let w = wakes f at stand.0.1 names.0 in
      let after = called_after m f at stand.0.2 w in
      let again : FrameStands x (frame_of (control_of x) (frame_again f)) at = record { stop = stand.0.1.stop; counts = w.counts; values = stand.0.1.values } in
      ((at, again, stand.0.2), subst (λ p. FrameFits x p (frame_again f)) after w.frame, outer_wakes f.module fs stand.1 names.1)

  -- ---- the first point

  -- where a thread of these frames goes on, with the wait answered
  pub record GoesOnAt (place : Place) (count : ℕ) (w : Wait) (b : Beside) (rs : List (Active (PointOf x))) : Type 0 where
    pub now : Beside
    pub frames : List (Active (PointOf x))
    pub point : PointFits x place count now frames
    pub goes : (left : ℕ) → go_on (control_of x) (suc left) w b rs ≡ going (control_of x) left now frames

  goes_on_at : (place : Place) (count : ℕ) (w : Wait) (b : Beside) (fs : List Frame) → FramesStand x w place fs → Each (FrameNames (heads x)) fs → length fs ≤ MAX_FRAMES → BesideFits (heads x) place count b
      → GoesOnAt place count w b (map (active_of (control_of x)) fs)
  goes_on_at place count w b [] stand names few bs = absurd stand
  goes_on_at place count w b (f ∷ fs) stand names few bs =
      let at = stand.0.0 in
      let own = wakes f at stand.0.1 names.0 in
      let slots = slots_of own.frame.head in
      let outer = outer_wakes f.module fs stand.1 names.1 in
      let m : length (map (active_of (control_of x)) fs) ≡ length fs = length-map fs (active_of (control_of x)) in
      let pause = (control x).pause f.module f.stop in
      let now = answered (heads x) pause w f.values b in
      let answer : NowFits (heads x) slots place count now =
      answers (heads x) slots place count at.kind pause w f.values b (stop_pauses x f.module f.stop at stand.0.1.stop)
      (subst (λ p. KindFits (heads x) slots at.kind p) stand.0.3 own.kind) stand.0.2 own.frame.values bs in
      let first : FrameFits x place (record (frame_again f) { values = now.values }) = record {
        head = own.frame.head;
        declared = own.frame.declared;
        values = answer.0;
        at = subst (λ p. PointIsAt x f.module own.frame.head (point_of (control_of x) f f.stop) p) stand.0.3 own.frame.at;
      } in
      record {
        now = now.beside;
        frames = record (frame_again f) { values = now.values } ∷ map (active_of (control_of x)) fs;
        point = record { beside = answer.1; frames = (first, outer); few = omega (arith, few, m) };
        goes = λ left. refl;
      }

  first_point : (t : Thread) (place : Place) (around : Around) → Stands x t place → ThreadNames (heads x) t → AroundFits (heads x) place around
      → GoesOnAt place (length around.shared) t.wait (beside t around) (actives_of (control_of x) t)
  first_point t place around stands names fit =
      goes_on_at place (length around.shared) t.wait (beside t around) (reverse t.frames) stands.frames (each_reverse (FrameNames (heads x)) t.frames names.values)
      (omega (arith, length-reverse t.frames, stands.few)) (beside_thread (heads x) t place around names fit)

  -- no step is left
  idle_leaves : (place : Place) (count : ℕ) (w : Wait) (b : Beside) (fs : List Frame) → FramesStand x w place fs → Each (FrameNames (heads x)) fs → length fs ≤ MAX_FRAMES → BesideFits (heads x) place count b
      → LeavesStanding x place (no_step b (map (active_of (control_of x)) fs))
  idle_leaves place count w b [] stand names few bs = absurd stand
  idle_leaves place count w b (f ∷ fs) stand names few bs =
      let frame = subst (λ p. FrameFits x p (frame_again f)) stand.0.3 (wakes f stand.0.0 stand.0.1 names.0).frame in
      let m : length (map (active_of (control_of x)) fs) ≡ length fs = length-map fs (active_of (control_of x)) in
      no_step_leaves x leads place count b (map (active_of (control_of x)) (f ∷ fs)) (record { beside = bs; frames = (frame, outer_wakes f.module fs stand.1 names.1); few = omega (arith, few, m) })

  -- a thread that stands, run, leaves one that stands
  leaves_standing : (t : Thread) (place : Place) (around : Around) (left : ℕ) → Stands x t place → ThreadNames (heads x) t → AroundFits (heads x) place around
      → LeavesStanding x place (go (control_of x) t around left)
  unfolding go
  leaves_standing t place around zero stands names fit =
      idle_leaves place (length around.shared) t.wait (beside t around) (reverse t.frames) stands.frames (each_reverse (FrameNames (heads x)) t.frames names.values)
      (omega (arith, length-reverse t.frames, stands.few)) (beside_thread (heads x) t place around names fit)
  leaves_standing t place around (suc left) stands names fit =
      let first = first_point t place around stands names fit in
      subst (LeavesStanding x place) (sym (first.goes left)) (going_leaves x leads place (length around.shared) left first.now first.frames first.point)

  begins_at : (t : Thread) (place : Place) (around : Around) → Stands x t place → ThreadNames (heads x) t → AroundFits (heads x) place around
      → (b : Beside) × (rs : List (Active (PointOf x))) × PointFits x place (length around.shared) b rs × ((left : ℕ) → go (control_of x) t around (suc left) ≡ going (control_of x) left b rs)
  unfolding go
  begins_at t place around stands names fit =
      let first = first_point t place around stands names fit in
      (first.now, first.frames, first.point, first.goes)

-- ---- well-formed programs

pub run_leaves : (x : Prog) → IsWellFormed x → (t : Thread) (place : Place) (around : Around) (left : ℕ) → Stands x t place → ThreadNames (heads x) t → AroundFits (heads x) place around
    → LeavesStanding x place (run_of x t around left)
run_leaves (Tree p) is = leaves_standing (Tree p) (leads_to_points (Tree p) is)
run_leaves (Code c) is = leaves_standing (Code c) (leads_to_points (Code c) is)

pub run_begins : (x : Prog) → IsWellFormed x → (t : Thread) (place : Place) (around : Around) → Stands x t place → ThreadNames (heads x) t → AroundFits (heads x) place around
    → (b : Beside) × (rs : List (Active (PointOf x))) × PointFits x place (length around.shared) b rs × ((left : ℕ) → run_of x t around (suc left) ≡ going (control x) left b rs)
run_begins (Tree p) is = begins_at (Tree p) (leads_to_points (Tree p) is)
run_begins (Code c) is = begins_at (Code c) (leads_to_points (Code c) is)

pub run_goes_on : (x : Prog) → IsWellFormed x → (place : Place) (count : ℕ) (b : Beside) (rs : List (Active (PointOf x))) → PointFits x place count b rs → GoesOnlyTo (control x) (PointFits x place count) b rs
run_goes_on (Tree p) is = goes_only (Tree p) (leads_to_points (Tree p) is)
run_goes_on (Code c) is = goes_only (Code c) (leads_to_points (Code c) is)

pub next_fits_there : (x : Prog) → IsWellFormed x → (place : Place) (count : ℕ) (b : Beside) (rs : List (Active (PointOf x))) → PointFits x place count b rs → FrontFits x place (live (control x) rs)
next_fits_there (Tree p) is = next_there (Tree p) (leads_to_points (Tree p) is)
next_fits_there (Code c) is = next_there (Code c) (leads_to_points (Code c) is)

front_lands : (c : Automata) → IsWellFormed (Code c) → (place : Place) (count : ℕ) (b : Beside) (rs : List (Active Point)) → PointFits (Code c) place count b rs → FrontLands c place rs
front_lands c is place count b [] f = tt
front_lands c is place count b (r ∷ rs) f = lands_on c is r.module f.frames.0.head f.frames.0.declared r.at place f.frames.0.at

pub run_lands : (c : Automata) → IsWellFormed (Code c) → (place : Place) (count : ℕ) (b : Beside) (rs : List (Active Point)) → PointFits (Code c) place count b rs → FrontLands c place (live (code c) rs)
run_lands c is place count b rs f = front_lands c is place count b (live (code c) rs) (live_point (Code c) (leads_to_points (Code c) is) place count b rs f)
