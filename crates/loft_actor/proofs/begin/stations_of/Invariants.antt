use Rattle.std.proofs.Common.{◌≡◌, ◌-◌, length, map}
use Rattle.std.specs.List.{range_with_len}
use Rattle.loft_code.specs.View.{automata_of}
use Rattle.loft_sense.specs.Machine.{Code}
use Rattle.loft_actor.specs.Engines.{shown, new_engine}
use Rattle.loft_actor.specs.Members.{AtIndex, IsGiver, IsStationOf, names_of, station_member}
use Rattle.loft_actor.proofs.begin.stations_of.Given as goal

-- the schedulers so far, and the engines that are left
abbrev pub invariant-loop-k : goal.invariant-loop-k
invariant-loop-k g l = record {
  giver : IsGiver l.b l.c (names_of (map station_member l.stations)) l.giver;
  many : length l.stations ≡ l.k;
  stations : AtIndex (IsStationOf l.b l.c l.fn.l) l.stations;
  left : map (λ e. shown (g.E.Engine.program e) (g.E.Engine.scheduler e) (g.E.Engine.limits e) (g.E.Engine.machine e) (g.E.Engine.has_failed e)) l.engines
      ≡ map (new_engine (Code (automata_of l.c)) l.fn.l) (range_with_len l.k (length l.c.heads.schedulers - l.k));
}
