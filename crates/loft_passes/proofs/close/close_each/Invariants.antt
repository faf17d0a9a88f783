use Rattle.std.proofs.Common.{◌≡◌, ◌++◌, map, take, drop}
use Rattle.std.specs.Prelude.{filter}
use Rattle.loft_sense.specs.Instant.{closed, closed_thread, stays, has_run, leavers}
use Rattle.loft_passes.specs.View.{standings_of, runners_of, is_held}
use Rattle.loft_passes.proofs.close.close_each.Given as goal

-- what was closed so far, and what is left
abbrev pub invariant-loop-runner : goal.invariant-loop-runner
invariant-loop-runner l =
    let before = take l.runner-index l.runner-items in
    let rest = runners_of (drop l.runner-index l.runner-items) in
    let all = runners_of l.fn.runners.items in
    record {
      linked : standings_of (filter (λ r. is_held r.stop) before) ++ map closed (filter stays rest) ≡ map closed (filter stays all);
      stands : l.stands ++ map closed_thread (filter has_run (filter stays rest)) ≡ l.fn.stands ++ map closed_thread (filter has_run (filter stays all));
      leavers : l.leavers ++ leavers rest ≡ l.fn.leavers ++ leavers all;
    }
