use Rattle.std.proofs.Common.{◌≡◌, map}
use Rattle.std.specs.List.{range_with_len}
use Rattle.loft_tree.specs.Ranks.{rank_in}
use Rattle.loft_tree.proofs.shared_heads.ranks_of.Given as goal

-- those of the variables so far
abbrev pub invariant-loop-number : goal.invariant-loop-number
invariant-loop-number l = l.ranks.items ≡ map (rank_in l.heads) (range_with_len 0 l.number)
