use Rattle.std.proofs.Common.{◌≡◌, length, map}
use Rattle.loft_waits.specs.Places.{SetsSome}
use Rattle.loft_waits.proofs.RangeLemmas.{SetsDone}
use Rattle.loft_waits.proofs.wake.wake.Given as goal

abbrev pub invariant-loop-place : goal.invariant-loop-place
invariant-loop-place l =
    (goal.iterator-loop-place).can_next l.place-iterator ×
    (goal.iterator-loop-place).is_finite l.place-iterator ×
    (length l.ready ≡ length l.fn.ready) ×
    SetsSome l.plain l.fn.ready l.ready ×
    SetsDone l.plain (map (λ y. y.now) l.yielded) l.ready
