use Rattle.std.proofs.Common.{ℕ, ◌<◌, ◌-◌, length}
use Rattle.loft_lock_pairs.specs.Leaving.{bodies_of, IsUnmarked}
use Rattle.loft_lock_pairs.proofs.leaving.first_unmarked.Given as goal

-- those before aren't such
abbrev pub invariant-loop-number : goal.invariant-loop-number
invariant-loop-number l = (n : ℕ) → n < l.number → IsUnmarked l.away (bodies_of l.modules) n → ⊥

abbrev pub decreases-loop-number : goal.decreases-loop-number
decreases-loop-number l = length l.modules - l.number
