use Rattle.std.proofs.Common.{◌≡◌, length}
use Rattle.loft_waits_speed.proofs.instants.waiting.Given as goal

-- the threads so far
abbrev pub invariant-threads : goal.invariant-threads
invariant-threads l = record {
  positions : length l.waits.waits ≡ l.pos;
  events : length l.waits.counts ≡ 2;
  closes : l.waits.closes ≡ 0;
}
