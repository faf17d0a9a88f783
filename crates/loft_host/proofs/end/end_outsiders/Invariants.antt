use Rattle.std.proofs.Common.{map, ◌++◌}
use Rattle.loft_host.specs.Gathered.{IsGathered, outsider_own}
use Rattle.loft_host.proofs.end.end_outsiders.Given as goal

abbrev pub invariant-loop-outsider : goal.invariant-loop-outsider
invariant-loop-outsider l = IsGathered l.b l.c l.initial.giver.knows.given (l.initial.giver.knows.own ++ map outsider_own l.yielded) l.giver
