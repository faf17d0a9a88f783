use Rattle.loft_history.specs.History.{starts_of}
use Rattle.loft_sense.specs.Heads.{scheduler}
use Rattle.loft_world.specs.State.{AreEach}
use Rattle.loft_world.proofs.start.starts_of_each.Given as goal

-- those of the schedulers so far
abbrev pub invariant-loop-at : goal.invariant-loop-at
invariant-loop-at l = AreEach (λ k. starts_of l.heads (scheduler k)) l.at l.waits.items
