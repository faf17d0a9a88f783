use Rattle.std.proofs.Common.{ℕ, List, take, ◌++◌}
use Rattle.std.specs.List.{flat_map}
use Rattle.loft_raw_block.specs.Compared.{Matches}
use Rattle.loft_raw_block.proofs.compare.match_instants.Given as goal

-- the instants so far were compared
abbrev pub invariant-loop-instant : goal.invariant-loop-instant
invariant-loop-instant l = (text front : List ℕ) → Matches text l.initial.matched.left.now l.initial.matched.is_same front
    → Matches text l.matched.left.now l.matched.is_same (front ++ flat_map (λ instant. instant) (take l.instant-index l.block.instants))
