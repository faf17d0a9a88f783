use Rattle.std.proofs.Common.{◌≡◌, ◌≤◌, ◌+◌, length}
use Rattle.loft_waits_tests.proofs.told.tell_all.Given as goal

-- what is so far told
abbrev pub invariant-loop-step : goal.invariant-loop-step
invariant-loop-step l = record {
  events : length l.waits.counts ≡ 2;
  closes : l.waits.closes ≤ l.initial.waits.closes + l.step-index;
  positions : length l.waits.waits ≡ length l.initial.waits.waits;
}
