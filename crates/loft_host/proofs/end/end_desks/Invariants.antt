use Rattle.std.proofs.Common.{map, ◌++◌}
use Rattle.loft_host.specs.Gathered.{IsGathered, caller_own}
use Rattle.loft_host.proofs.end.end_desks.Given as goal

abbrev pub invariant-loop-desk : goal.invariant-loop-desk
invariant-loop-desk g l = IsGathered l.b l.c l.initial.giver.knows.given (l.initial.giver.knows.own ++ map (λ d. caller_own d.pass) l.yielded) l.giver
