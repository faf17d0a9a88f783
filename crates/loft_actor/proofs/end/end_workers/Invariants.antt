use Rattle.std.proofs.Common.{map}
use Rattle.loft_actor.specs.Members.{Joins, worker_member}
use Rattle.loft_actor.proofs.end.end_workers.Given as goal

abbrev pub invariant-loop-worker : goal.invariant-loop-worker
invariant-loop-worker l = Joins l.b l.initial.giver (map worker_member l.yielded) l.giver
