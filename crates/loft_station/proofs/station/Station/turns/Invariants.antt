use Rattle.std.proofs.Common.{◌≡◌, ◌+◌}
use Rattle.loft_station.specs.Stations.{IsReady, IsSame, turns_in}
use Rattle.loft_station.proofs.station.Station.turns.Given as goal

abbrev pub invariant-loop-turn : goal.invariant-loop-turn
invariant-loop-turn g l = record {
  ready : IsReady l.b l.c l.self;
  same' : IsSame l.initial.self l.self;
  made : turns_in l.self ≡ turns_in l.initial.self + l.turn;
}
