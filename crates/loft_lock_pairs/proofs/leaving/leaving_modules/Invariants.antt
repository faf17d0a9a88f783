use Rattle.std.proofs.Common.{◌≡◌, length}
use Rattle.loft_tree.specs.Resolved.{Resolved}
use Rattle.loft_lock_expansion.proofs.LeavingLemmas.{MarksOnly}
use Rattle.loft_lock_pairs.specs.Leaving.{marked_in, bodies_of}
use Rattle.loft_lock_pairs.proofs.TurnLemmas.{unmarked}
use Rattle.loft_lock_pairs.proofs.leaving.leaving_modules.Given as goal

-- only modules that leave are marked
abbrev pub invariant-loop-number : goal.invariant-loop-number
invariant-loop-number l = record {
  all : length l.away.items ≡ length l.modules;
  only : (p : Resolved) → p.bodies ≡ bodies_of l.modules → MarksOnly p (marked_in l.away.items);
}

-- each turn marks one more
abbrev pub decreases-loop-number : goal.decreases-loop-number
decreases-loop-number l = unmarked l.away.items
