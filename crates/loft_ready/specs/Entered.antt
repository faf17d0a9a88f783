-- Waits of the linked threads of an instant, by position in their list (docs/SEMANTICS.md, "Waiting lists").
use Rattle.std.specs.Prelude.{◌≡◌, ℕ, ◌-◌, not, ◌&&◌, List, map, Option, Some, None, slice_get, slice_set, if◌then◌else◌}
use Rattle.loft_orders.specs.declared.thread.Wait.{Wait}
use Rattle.loft_sense.specs.Machine.{Prog}
use Rattle.loft_sense.specs.Around.{Around}
use Rattle.loft_sense.specs.Passes.{run_of, runners_after, around_after}
use Rattle.loft_passes.specs.declared.runner.Runner.{Runner}
use Rattle.loft_passes.specs.View.{runner_to, linked_of, is_held}
use Rattle.loft_waits.specs.Told.{Told, counts_of}

-- the wait of a thread that is held and isn't suspended
abbrev pub wait_of : Runner → Option Wait
wait_of r = if is_held r.stop && not r.suspended then Some r.thread.wait else None

-- the waits are those of the threads, and were told what the board has and who is known as ended
pub record IsEntered (rs : List Runner) (around : Around) (told : Told) : Type 0 where
  pub waits : told.waits ≡ map wait_of rs
  pub counts : told.counts ≡ counts_of around.board
  pub ended : told.ended ≡ around.known

-- the thread at a position has run, and nobody else
pub record HasRunAt (x : Prog) (p : ℕ) (rs : List Runner) (around : Around) (later : List Runner) (after : Around) : Type 0 where
  pub before : Runner
  pub now : Runner
  pub there : slice_get rs p ≡ Some before
  pub later_is : later ≡ slice_set rs p now
  pub linked : linked_of now ≡ runners_after (runner_to None before) (run_of x before.thread around (before.bound - before.steps))
  pub after_is : after ≡ around_after (run_of x before.thread around (before.bound - before.steps))
