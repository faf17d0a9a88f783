use Rattle.std.proofs.Common.{map}
use Rattle.loft_actor.specs.Members.{Joins, outsider_member}
use Rattle.loft_actor.proofs.end.end_outsiders.Given as goal

abbrev pub invariant-loop-outsider : goal.invariant-loop-outsider
invariant-loop-outsider l = Joins l.b l.initial.giver (map outsider_member l.yielded) l.giver
