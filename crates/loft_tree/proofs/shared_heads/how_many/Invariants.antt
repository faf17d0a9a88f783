use Rattle.std.proofs.Common.{◌≡◌, ◌+◌, ◌≤◌, length, drop}
use Rattle.std.specs.Prelude.{filter}
use Rattle.loft_tree.specs.Ranks.{is_at}
use Rattle.loft_tree.proofs.shared_heads.how_many.Given as goal

-- those so far, and then those of the rest
abbrev pub invariant-loop-head : goal.invariant-loop-head
invariant-loop-head l = record {
  all : l.count + length (filter (is_at l.scheduler) (drop l.head-index l.heads)) ≡ length (filter (is_at l.scheduler) l.heads);
  few : l.count ≤ l.head-index;
}
