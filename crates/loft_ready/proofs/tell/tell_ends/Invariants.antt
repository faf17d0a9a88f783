use Rattle.std.proofs.Common.{◌≡◌, ◌++◌, drop}
use Rattle.loft_ready.proofs.tell.tell_ends.Given as goal

-- what is left is told after the first ones
abbrev pub invariant-loop-thread : goal.invariant-loop-thread
invariant-loop-thread l = record {
  ended : l.waits.ended ++ drop l.thread-index l.ends ≡ l.fn.waits.ended ++ l.ends;
  waits : l.waits.waits ≡ l.fn.waits.waits;
  counts : l.waits.counts ≡ l.fn.waits.counts;
  closes : l.waits.closes ≡ l.fn.waits.closes;
}
