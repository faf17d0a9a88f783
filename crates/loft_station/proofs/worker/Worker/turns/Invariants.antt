use Rattle.std.proofs.Common.{◌≡◌, ◌+◌}
use Rattle.loft_station.specs.Workers.{IsReady, IsSame, jobs_in}
use Rattle.loft_station.proofs.worker.Worker.turns.Given as goal

abbrev pub invariant-loop-turn : goal.invariant-loop-turn
invariant-loop-turn g l = record {
  ready : IsReady l.b l.c l.self;
  same' : IsSame l.initial.self l.self;
  made : jobs_in l.self ≡ jobs_in l.initial.self + l.turn;
}
