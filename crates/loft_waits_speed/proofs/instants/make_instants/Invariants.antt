use Rattle.std.proofs.Common.{◌≡◌, ◌≤◌, ◌<◌, length}
use Rattle.loft_waits_speed.proofs.instants.make_instants.Given as goal

-- the instants so far
abbrev pub invariant-instants : goal.invariant-instants
invariant-instants l = record {
  within : l.pos < length l.waits.waits;
  events : length l.waits.counts ≡ 2;
  closes : l.waits.closes ≤ l.counter;
}
