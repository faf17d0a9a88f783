use Rattle.loft_station.specs.Stations.{IsReady, IsSame}
use Rattle.loft_phase.proofs.turns.turns_on.Given as goal

abbrev pub invariant-loop-share : goal.invariant-loop-share
invariant-loop-share g l = record {
  ready : IsReady l.b l.c l.station;
  same' : IsSame l.initial.station l.station;
}
