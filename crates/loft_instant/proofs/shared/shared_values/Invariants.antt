use Rattle.std.proofs.Common.{◌≡◌, ◌++◌, map, drop}
use Rattle.std.specs.Prelude.{filter}
use Rattle.loft_tree.specs.declared.heads.SharedHead.{SharedHead}
use Rattle.loft_tree.specs.Ranks.{is_at}
use Rattle.loft_instant.proofs.shared.shared_values.Given as goal

-- the values so far, and those of what is left
abbrev pub invariant-loop-one : goal.invariant-loop-one
invariant-loop-one l = l.values ++ map (λ (x : SharedHead). x.value) (filter (is_at l.scheduler) (drop l.one-index l.shared)) ≡ map (λ (x : SharedHead). x.value) (filter (is_at l.scheduler) l.shared)
