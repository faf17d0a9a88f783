use Rattle.std.proofs.Common.{◌≡◌, drop, length}
use Rattle.loft_sense.specs.LawWords.{generated_in}
use Rattle.loft_ready.specs.Telling.{told}
use Rattle.loft_ready.proofs.tell.tell_each.Given as goal

-- what is left is told after the first ones
abbrev pub invariant-loop-act : goal.invariant-loop-act
invariant-loop-act l = record {
  counts : told l.board (generated_in (drop l.act-index l.acts)) l.waits.counts ≡ told l.board (generated_in l.acts) l.fn.waits.counts;
  length : length l.waits.counts ≡ length l.fn.waits.counts;
  waits : l.waits.waits ≡ l.fn.waits.waits;
  ended : l.waits.ended ≡ l.fn.waits.ended;
  closes : l.waits.closes ≡ l.fn.waits.closes;
}
