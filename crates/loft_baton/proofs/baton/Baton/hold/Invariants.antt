use Rattle.std.proofs.Common.{◌≡◌}
use Rattle.crossbeam_queue.specs.Passes.{view, IsSamePass}
use Rattle.loft_baton.proofs.baton.Baton.hold.Given as goal

abbrev pub invariant-loop : goal.invariant-loop
invariant-loop g l = IsSamePass l.initial.p-inside.inner l.p-inside.inner × (view l.p-inside.inner ≡ view l.initial.p-inside.inner) × (l.p-inside.count ≡ l.initial.p-inside.count)
