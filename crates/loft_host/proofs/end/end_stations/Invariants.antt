use Rattle.std.proofs.Common.{◌≡◌, map}
use Rattle.loft_host.specs.Gathered.{IsGathered, station_own}
use Rattle.loft_host.proofs.end.end_stations.Given as goal

abbrev pub invariant-loop-station : goal.invariant-loop-station
invariant-loop-station g l = record {
  giver : IsGathered l.b l.c l.initial.giver.knows.given (map station_own l.yielded) l.giver;
  notes : l.notes ≡ map (λ v. v.notes) l.yielded;
}
