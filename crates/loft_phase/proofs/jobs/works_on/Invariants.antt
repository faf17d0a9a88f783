use Rattle.loft_station.specs.Workers.{IsReady, IsSame}
use Rattle.loft_phase.proofs.jobs.works_on.Given as goal

abbrev pub invariant-loop-share : goal.invariant-loop-share
invariant-loop-share g l = record {
  ready : IsReady l.b l.c l.worker;
  same' : IsSame l.initial.worker l.worker;
}
