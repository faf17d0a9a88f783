use Rattle.std.proofs.Common.{◌≡◌, ◌+◌}
use Rattle.loft_station.specs.Outsiders.{IsReady, IsSame}
use Rattle.loft_station.proofs.outsider.Outsider.turns.Given as goal

abbrev pub invariant-loop-turn : goal.invariant-loop-turn
invariant-loop-turn g l = record {
  ready : IsReady l.b l.c l.self;
  same' : IsSame l.initial.self l.self;
  made : l.self.given ≡ l.initial.self.given + l.turn;
}
