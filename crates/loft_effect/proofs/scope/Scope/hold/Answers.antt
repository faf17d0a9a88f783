use Rattle.loft_effect.proofs.scope.Scope.hold.Goals as goal

pub returns-in-Await : goal.returns-in-Await
returns-in-Await c = rw (c.in-Await.is, ← c.as_slice.ensures.value) c.wait_for.ensures
