use Rattle.std.proofs.Common.{◌≡◌, map}
use Rattle.loft_code.specs.View.{automata_of}
use Rattle.loft_sense.specs.Machine.{Code}
use Rattle.loft_actor.specs.Engines.{shown}
use Rattle.loft_actor.specs.Members.{Joins, station_member}
use Rattle.loft_actor.proofs.end.end_stations.Given as goal

abbrev pub invariant-loop-station : goal.invariant-loop-station
invariant-loop-station g l = record {
  giver : Joins l.b l.initial.giver (map station_member l.yielded) l.giver;
  engines : map (λ e. shown (g.E.Engine.program e) (g.E.Engine.scheduler e) (g.E.Engine.limits e) (g.E.Engine.machine e) (g.E.Engine.has_failed e)) l.engines
      ≡ map (λ v. shown (Code (automata_of l.c)) v.scheduler v.limits v.machine v.failed) l.yielded;
  notes : l.notes ≡ map (λ v. v.notes) l.yielded;
}
