use Rattle.std.proofs.Common.{◌≡◌, length, map}
use Rattle.loft_actor.specs.Members.{AtIndex, IsGiver, IsStationOf, names_of, station_member}
use Rattle.loft_host.proofs.begin.stations_of.Given as goal

-- the schedulers so far
abbrev pub invariant-loop-k : goal.invariant-loop-k
invariant-loop-k l = record {
  giver : IsGiver l.b l.c (names_of (map station_member l.stations)) l.giver;
  many : length l.stations ≡ l.k;
  stations : AtIndex (IsStationOf l.b l.c l.fn.l) l.stations;
}
