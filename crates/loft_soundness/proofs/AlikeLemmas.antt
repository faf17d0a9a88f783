-- Programs whose threads run alike make the same instants, and the same of unlinked threads.
use Rattle.std.proofs.Common.{◌≡◌, ℕ, zero, suc, Bool, true, false, List, [], ◌∷◌, length, map, refl, ap, ◌∙◌}
use Rattle.std.specs.Prelude.{All, if◌then◌else◌}
use Rattle.loft_base.specs.declared.ids.SchedId.{SchedId}
use Rattle.loft_tree.specs.declared.heads.Place.TheVariants.{Sched, Unlinked}
use Rattle.loft_tree.specs.declared.heads.Heads.{Heads}
use Rattle.loft_tree.specs.Fits.{Each}
use Rattle.loft_board.specs.Board.{no_events}
use Rattle.loft_base.specs.declared.options.Limits.{Limits}
use Rattle.loft_orders.specs.declared.order.Order.{Order}
use Rattle.loft_orders.specs.declared.thread.Thread.{Thread}
use Rattle.loft_sense.specs.Heads.{shared_of}
use Rattle.loft_sense.specs.Tally.{tally_after}
use Rattle.loft_sense.specs.Machine.{Prog, heads, Mach}
use Rattle.loft_sense.specs.Around.{Around}
use Rattle.loft_sense.specs.Run.{Outcome}
use Rattle.loft_sense.specs.Fits.{Fits}
use Rattle.loft_sense.specs.Passes.{Runner, Walk, is_ready, run_of, runners_after, around_after, walked, pass, passes_within, steps_left, passes}
use Rattle.loft_sense.specs.Apply.{Applied, unapplied, apply_orders, apply}
use Rattle.loft_sense.specs.Instant.{runner_of, around_of, changes, AfterInstant, machine_closed, note_of, instant}
use Rattle.loft_sense.specs.Async.{alone, block_sent, async}
use Rattle.loft_soundness.specs.Points.{AroundFits}
use Rattle.loft_soundness.specs.Machines.{ThreadFits, MachFits}
use Rattle.loft_soundness.specs.WellFormed.{IsWellFormed}
use Rattle.loft_soundness.specs.Alike.{RunsAlike}
use Rattle.loft_soundness.proofs.ListLemmas.{each_of}
use Rattle.loft_soundness.proofs.StandLemmas.{run_leaves}
use Rattle.loft_soundness.proofs.InstantLemmas.{RunnerFits, around_fits, ready_fits, alone_fits, begin_fit, pass_fits, batch_applied, first_around}

-- ---- unlinked threads

pub blocks_same : (x y : Prog) → RunsAlike x y → (t : Thread) (block : ℕ) → ThreadFits x Unlinked t → async x t block ≡ async y t block
blocks_same x y alike t block f =
    ap block_sent (alike.runs t Unlinked (alone x) block f (alone_fits x))
    ∙ ap (λ (h : Heads). block_sent (run_of y t (record (alone x) { board = no_events (length h.events) }) block)) alike.heads

module _ (x y : Prog) (well : IsWellFormed x) (alike : RunsAlike x y) where
  -- ---- passes

  -- each walk over these threads
  abbrev PassesSame : SchedId → List Runner → Type 0
  PassesSame s rs = (around : Around) → AroundFits (heads x) (Sched s) around → pass x rs around ≡ pass y rs around

  -- o and q: how the run of r ends in each program, where it runs
  walk_same : (s : SchedId) (r : Runner) (rs : List Runner) (around : Around) (goes : Bool) (o q : Outcome) → PassesSame s rs → AroundFits (heads x) (Sched s) around
      → (goes ≡ true → (o ≡ q) × AroundFits (heads x) (Sched s) (around_after o))
      → (if goes then walked (runners_after r o) true (pass x rs (around_after o)) else walked (r ∷ []) false (pass x rs around))
      ≡ (if goes then walked (runners_after r q) true (pass y rs (around_after q)) else walked (r ∷ []) false (pass y rs around))
  walk_same s r rs around true o q rest a run =
      ap (λ (w : Walk). walked (runners_after r o) true w) (rest (around_after o) (run refl).1)
      ∙ ap (λ (p : Outcome). walked (runners_after r p) true (pass y rs (around_after p))) (run refl).0
  walk_same s r rs around false o q rest a run = ap (λ (w : Walk). walked (r ∷ []) false w) (rest around a)

  pass_same : (s : SchedId) (rs : List Runner) → Each (RunnerFits x s) rs → PassesSame s rs
  pass_same s [] f around a = refl
  pass_same s (r ∷ rs) f around a =
      let o = run_of x r.thread around r.left in
      walk_same s r rs around (is_ready r around) o (run_of y r.thread around r.left) (pass_same s rs f.1) a
      (λ e.
      let t = (ready_fits x s r around f.0 e).1 in
      (alike.runs r.thread (Sched s) around r.left t a, around_fits x s o (run_leaves x well r.thread (Sched s) around r.left t.0 t.1 a)))

  within_same : (s : SchedId) (k : ℕ) (rs : List Runner) → Each (RunnerFits x s) rs → (around : Around) → AroundFits (heads x) (Sched s) around
      → passes_within k x rs around ≡ passes_within k y rs around
  within_same s zero rs f around a = pass_same s rs f around a
  within_same s (suc k) rs f around a =
      let first = pass x rs around in
      let w = pass_fits x well s rs f around a in
      ap (λ (v : Walk). if first.ran then v else first) (within_same s k first.runners w.runners first.around w.around)
      ∙ ap (λ (v : Walk). if v.ran then passes_within k y v.runners v.around else v) (pass_same s rs f around a)

  passes_same : (s : SchedId) (rs : List Runner) → Each (RunnerFits x s) rs → (around : Around) → AroundFits (heads x) (Sched s) around → passes x rs around ≡ passes y rs around
  unfolding passes
  passes_same s rs f around a = within_same s (steps_left rs) rs f around a

  -- ---- instants

  -- an instant on this batch whose passes made this walk, of a program with these declarations
  abbrev instant_by : Mach → List Order → Applied → Walk → Heads → AfterInstant
  instant_by m batch a w h =
      let note = record (note_of x m a w) { changed = changes (shared_of h m.s) m.shared w.around.shared } in
      record { machine = record (machine_closed m w) { tally = tally_after h m.tally batch note }; note = note }

  pub instant_same : (limits : Limits) (m : Mach) (batch : List Order) → MachFits x m → Each (Fits x m.s) batch → instant x limits m batch ≡ instant y limits m batch
  unfolding instant
  instant_same limits m batch f g =
      let a = apply x m batch in
      let linked = begin_fit x m.s limits.budget a.linked (batch_applied x well m batch f g).linked in
      ap (λ (w : Walk). instant_by m batch a w (heads x)) (passes_same m.s (map (runner_of limits.budget) a.linked) linked (around_of m a) (first_around x well m batch f g))
      ∙ ap (λ (h : Heads).
      let b = apply_orders h m.s (unapplied h m) batch in
      instant_by m batch b (passes y (map (runner_of limits.budget) b.linked) (around_of m b)) h) alike.heads

  -- as the law says it
  pub instants_same : (limits : Limits) (m : Mach) (batch : List Order) → MachFits x m → All (Fits x m.s) batch → instant x limits m batch ≡ instant y limits m batch
  instants_same limits m batch f g = instant_same limits m batch f (each_of (Fits x m.s) batch g)
