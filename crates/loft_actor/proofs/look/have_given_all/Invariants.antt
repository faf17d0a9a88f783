use Rattle.std.proofs.Common.{take}
use Rattle.std.specs.List.{All}
use Rattle.loft_station.specs.Outsiders.{HasGivenAll}
use Rattle.loft_actor.proofs.look.have_given_all.Given as goal

abbrev pub invariant-loop-outsider : goal.invariant-loop-outsider
invariant-loop-outsider l = All (HasGivenAll l.c) (take l.outsider-index l.outsiders)
