use Rattle.std.proofs.Common.{◌≡◌, ◌++◌, drop}
use Rattle.loft_history.specs.History.{starts_from}
use Rattle.loft_sense.specs.Heads.{scheduler}
use Rattle.loft_world.proofs.start.starts_at.Given as goal

-- the creates so far, and those of the starts that are left
abbrev pub invariant-loop-k : goal.invariant-loop-k
invariant-loop-k l = l.orders ++ starts_from (scheduler l.at) l.k (drop l.k l.heads.starts) ≡ starts_from (scheduler l.at) 0 l.heads.starts
