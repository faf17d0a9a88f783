-- One run at a position of a line.
use Rattle.std.proofs.Common.{◌≡◌, ℕ, ◌-◌, ◌<◌, Bool, true, false, List, ◌++◌, refl, sym, ◌∙◌, ap, subst, arith, Option, Some, None, length, get_or, set, map}
use Rattle.std.specs.Prelude.{◌&&◌, slice_get, slice_set}
use Rattle.std.proofs.lemmas.List.{length-set}
use Rattle.std.proofs.lemmas.Option.{slice_get_read}
use Rattle.loft_base.specs.declared.ids.ThreadId.{ThreadId}
use Rattle.loft_orders.specs.declared.thread.Wait.{Wait}
use Rattle.loft_sense.specs.Machine.{Prog}
use Rattle.loft_sense.specs.Around.{Around}
use Rattle.loft_sense.specs.Passes.{Walk, run_of, runners_after, around_after}
use Rattle.loft_passes.specs.declared.runner.Runner.{Runner}
use Rattle.loft_passes.specs.View.{runner_to, linked_of, runners_of, is_held}
use Rattle.loft_waits.specs.Told.{Told, counts_of, ready_at, NobodyFrom, IsNext}
use Rattle.loft_ready.specs.Entered.{wait_of, IsEntered, HasRunAt}
use Rattle.loft_ready.proofs.RunLemmas.{entered_after, waits_left}
use Rattle.loft_ready.proofs.PositionLemmas.{Onward, ready_runs, length_entered}
use Rattle.loft_sense.specs.Instant.{runner_of}
use Rattle.loft_line.specs.declared.line.Line.{Line}
use Rattle.loft_line.specs.Line.{with_wait, without_wait, with_waits, runners_in, standings_in, IsIdle}
use Rattle.loft_line.proofs.LineLemmas.{all_rest}
use Rattle.loft_line.proofs.ListLemmas.{there_is, there_set, left_there, changed_at, length_with}

pub long_waits : (rs : List Runner) (a : Around) (t : Told) → IsEntered (with_waits rs t.waits) a t → length t.waits ≡ length rs
long_waits rs a t e = length_entered (with_waits rs t.waits) a t e ∙ length_with rs t.waits

-- the thread that was taken out is the one at the position, with its wait
pub taken_there : (s0 s1 : List Runner) (w0 : List (Option Wait)) (p : ℕ) (r : Runner) → p < length s0 → ((q : Runner) → slice_get s0 p ≡ Some q → s1 ≡ slice_set s0 p (with_wait (get_or w0 p None) q)) → r ≡ get_or s1 p r
    → slice_get (with_waits s0 w0) p ≡ Some r
taken_there s0 s1 w0 p r within left read =
    let it = there_is s0 p within in
    let long : length s1 ≡ length s0 = ap (λ (l : List Runner). length l) (left it.0 it.1) ∙ length-set s0 p (with_wait (get_or w0 p None) it.0) in
    sym (left_there s0 s1 w0 p within left) ∙ slice_get_read s1 (length s1) p r refl (omega (arith, long, within)) read

module _ (x : Prog) (s0 s1 s3 : List Runner) (t0 t1 t2 t3 t4 : Told) (p : ℕ) (r now : Runner) (a b : Around) (ends : List ThreadId)
    (within : p < length s0) (entered : IsEntered (with_waits s0 t0.waits) a t0)
    (left : (q : Runner) → slice_get s0 p ≡ Some q → s1 ≡ slice_set s0 p (with_wait (get_or t0.waits p None) q)) (e1 : t1 ≡ record t0 { waits = slice_set t0.waits p None })
    (e2 : t2 ≡ record t1 { counts = counts_of b.board }) (e3 : t3 ≡ record t2 { ended = t2.ended ++ ends })
    (e4 : (q : Runner) → slice_get (set s1 p now) p ≡ Some q → t4 ≡ record t3 { waits = slice_set t3.waits p (wait_of q) })
    (back : (q : Runner) → slice_get (set s1 p now) p ≡ Some q → s3 ≡ slice_set (set s1 p now) p (without_wait q)) where
  long : length t0.waits ≡ length s0
  long = long_waits s0 a t0 entered

  long1 : length s1 ≡ length s0
  long1 = let it = there_is s0 p within in ap (λ (l : List Runner). length l) (left it.0 it.1) ∙ length-set s0 p (with_wait (get_or t0.waits p None) it.0)

  pub now_there : slice_get (set s1 p now) p ≡ Some now
  now_there = there_set s1 p now (let l = long1 in omega (arith, l, within))

  w1 : t1.waits ≡ slice_set t0.waits p None
  w1 = ap (λ (t : Told). t.waits) e1

  pub w3 : t3.waits ≡ slice_set t0.waits p None
  w3 = waits_left p t0 t1 t2 t3 (counts_of b.board) ends e1 e2 e3

  pub later_is : with_waits s3 t4.waits ≡ slice_set (with_waits s0 t0.waits) p now
  later_is =
      let w4 : t4.waits ≡ slice_set t3.waits p (wait_of now) = ap (λ (t : Told). t.waits) (e4 now now_there) in
      changed_at s0 s1 (set s1 p now) s3 t0.waits t3.waits t4.waits p now within long left w3 refl back w4

  pub entered_now : b.known ≡ a.known ++ ends → IsEntered (with_waits s3 t4.waits) b t4
  entered_now known = entered_after (with_waits s0 t0.waits) (with_waits s3 t4.waits) p now a b t0 t1 t2 t3 t4 ends entered later_is e1 e2 e3 (e4 now now_there) known

  pub has_run : slice_get (with_waits s0 t0.waits) p ≡ Some r → linked_of now ≡ runners_after (runner_to None r) (run_of x r.thread a (r.bound - r.steps)) → b ≡ around_after (run_of x r.thread a (r.bound - r.steps))
      → HasRunAt x p (with_waits s0 t0.waits) a (with_waits s3 t4.waits) b
  has_run there linked after = record { before = r; now = now; there = there; later_is = later_is; linked = linked; after_is = after }

  pub closes_same : t4.closes ≡ t0.closes
  closes_same = ap (λ (t : Told). t.closes) (e4 now now_there) ∙ ap (λ (t : Told). t.closes) e3 ∙ ap (λ (t : Told). t.closes) e2 ∙ ap (λ (t : Told). t.closes) e1

  pub long3 : length s3 ≡ length s0
  long3 = ap (λ (l : List Runner). length l) (back now now_there) ∙ length-set (set s1 p now) p (without_wait now) ∙ length-set s1 p now ∙ long1

held_if : (a b : Bool) → (a && b) ≡ true → a ≡ true
held_if true b h = refl
held_if false b h = absurd cc

pub ready_held : (rs : List Runner) (a : Around) (t : Told) (p : ℕ) (r : Runner) → IsEntered rs a t → slice_get rs p ≡ Some r → ready_at t p ≡ true → is_held r.stop ≡ true
ready_held rs a t p r e there ready = held_if (is_held r.stop) _ (sym (ready_runs rs a t p r e there) ∙ ready)

-- a next position is one, and is ready; where there is none, nobody is ready
abbrev pub IfNext : Told → Option ℕ → Type 0
IfNext told None = NobodyFrom told 0
IfNext told (Some q) = (q < length told.waits) × (ready_at told q ≡ true)

pub if_next : (told : Told) (p : ℕ) (o : Option ℕ) → IsNext told p o → IfNext told o
if_next told p None next = next
if_next told p (Some q) next = (next.within, next.ready)

pub idle_rests : (l : Line) → IsIdle l → runners_of (runners_in l) ≡ map (runner_of l.budget) (standings_in (runners_in l))
idle_rests l idle = all_rest l.budget (runners_in l) (λ i r h. idle.line.marked i r h (idle.unmarked i))

-- what one run at a position does
pub record HasRunSo (x : Prog) (p : ℕ) (s0 s3 : List Runner) (t0 t4 : Told) (a b : Around) : Type 0 where
  pub run : HasRunAt x p (with_waits s0 t0.waits) a (with_waits s3 t4.waits) b
  pub entered : IsEntered (with_waits s3 t4.waits) b t4
  pub before : Runner
  pub there : slice_get (with_waits s0 t0.waits) p ≡ Some before
  pub held : is_held before.stop ≡ true
  pub closes : t4.closes ≡ t0.closes
  pub long : length s3 ≡ length s0

-- where no position is next, the passes are over
pub over_is : (x : Prog) (whole : Walk) (rs : List Runner) (a : Around) (o : Option ℕ) → o ≡ None → Onward x whole rs a o → whole ≡ record { runners = runners_of rs; around = a; ran = false }
over_is x whole rs a o is on = subst (λ (q : Option ℕ). Onward x whole rs a q) is on
