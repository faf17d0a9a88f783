use Rattle.std.proofs.Common.{map, ◌++◌}
use Rattle.loft_host.specs.Gathered.{IsGathered, worker_own}
use Rattle.loft_host.proofs.end.end_workers.Given as goal

abbrev pub invariant-loop-worker : goal.invariant-loop-worker
invariant-loop-worker l = IsGathered l.b l.c l.initial.giver.knows.given (l.initial.giver.knows.own ++ map worker_own l.yielded) l.giver
