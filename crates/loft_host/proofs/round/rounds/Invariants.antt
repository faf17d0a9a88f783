use Rattle.std.proofs.Common.{◌≡◌, length}
use Rattle.loft_actor.specs.Members.{AtIndex, IsGiver, IsStationOf, IsWorkerOf, IsOutsiderOf}
use Rattle.loft_host.specs.Callers.{IsCallerOf}
use Rattle.loft_host.proofs.round.rounds.Given as goal

abbrev pub invariant-rounds : goal.invariant-rounds
invariant-rounds g l = record {
  giver : IsGiver l.b l.c l.initial.giver.knows.given l.giver;
  stations : AtIndex (IsStationOf l.b l.c l.fn.l) l.a.stations;
  workers : AtIndex (IsWorkerOf l.b l.c l.fn.l.block) l.a.workers;
  outsiders : AtIndex (IsOutsiderOf l.b l.c) l.a.outsiders;
  callers : AtIndex (λ i d. IsCallerOf l.b l.c i d.pass) l.desks;
  many : (length l.a.stations ≡ length l.initial.a.stations) × (length l.a.workers ≡ length l.initial.a.workers) × (length l.a.outsiders ≡ length l.initial.a.outsiders);
}
