use Rattle.std.proofs.Common.{◌≡◌, ◌≤◌, ◌++◌, true, length, drop}
use Rattle.loft_report_parts.proofs.parts.PartStack.put.Given as goal

abbrev pub invariant-loop-n : goal.invariant-loop-n
invariant-loop-n l = record {
  within : l.n ≤ length l.more;
  before : l.room.is_whole ≡ true → l.fn.room.is_whole ≡ true;
  parts : l.room.is_whole ≡ true → l.self ≡ drop l.n l.more ++ l.fn.self;
}

abbrev pub decreases-loop-n : goal.decreases-loop-n
decreases-loop-n l = l.n
