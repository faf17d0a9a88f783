use Rattle.std.proofs.Common.{◌≡◌, map, take}
use Rattle.loft_world.specs.Replay.{stand_of}
use Rattle.loft_run.proofs.run.stands.Given as goal

-- the schedulers so far
abbrev pub invariant-engines : goal.invariant-engines
invariant-engines g l = l.finals ≡ map (λ e. stand_of (g.E.Engine.machine e)) (take l.engine-index l.engines)
