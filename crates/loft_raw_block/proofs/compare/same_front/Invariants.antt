use Rattle.std.proofs.Common.{◌≡◌, ◌≤◌, ◌-◌, length, take}
use Rattle.loft_raw_block.proofs.compare.same_front.Given as goal

-- the bytes so far are the same
abbrev pub invariant-bytes : goal.invariant-bytes
invariant-bytes l = record {
  in_one : l.count ≤ length l.one;
  in_other : l.count ≤ length l.other;
  same : take l.count l.one ≡ take l.count l.other;
}

abbrev pub decreases-bytes : goal.decreases-bytes
decreases-bytes l = length l.one - l.count
