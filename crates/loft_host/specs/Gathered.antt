-- The passes of all actors come together (docs/EMBEDDING.md, "A whole run").
use Rattle.std.specs.Prelude.{◌≡◌, ℕ, ◌+◌, ◌++◌, true, List, map, Some}
use Rattle.std.specs.List.{range_with_len}
use Rattle.atomic_table.specs.Seated.{TableId}
use Rattle.loft_code.specs.declared.raw.CodeProgram.{CodeProgram}
use Rattle.loft_orders.specs.declared.entry.Actor.{Actor}
use Rattle.loft_orders.specs.declared.entry.Actor.TheVariants as actor
use Rattle.loft_sense.specs.Heads.{scheduler}
use Rattle.loft_baton.specs.declared.knows.Own.{Own}
use Rattle.loft_baton.specs.Knowing.{IsIdle, own_of}
use Rattle.loft_baton.specs.PassValue.{PassValue}
use Rattle.loft_seat.specs.Seats.{entries_of}
use Rattle.loft_station.specs.Stations.{StationView}
use Rattle.loft_station.specs.declared.worker.Worker.{Worker}
use Rattle.loft_station.specs.declared.outsider.Outsider.{Outsider}
use Rattle.loft_ft.specs.Calls as calls
use Rattle.loft_host.specs.Callers.{caller_in}

-- the giving pass, which gave out these actors, and has these with their entries
pub record IsGathered (b : TableId) (x : CodeProgram) (given : List Actor) (own : List Own) (p : PassValue) : Type 0 where
  pub baton : p.baton ≡ b
  pub idle : IsIdle p.knows
  pub code : p.knows.code ≡ Some x
  pub gives : p.knows.gives ≡ true
  pub given_out : p.knows.given ≡ given
  pub has : p.knows.own ≡ own

abbrev pub station_own : StationView → Own
station_own v = own_of (actor.Sched v.scheduler) (entries_of v.seat)

abbrev pub worker_own : Worker → Own
worker_own v = own_of (actor.Worker v.number) (entries_of v.seat)

abbrev pub outsider_own : Outsider → Own
outsider_own v = own_of (actor.Client v.client) (entries_of v.seat)

abbrev pub caller_own : PassValue → Own
caller_own p = own_of (caller_in p) (calls.entries_of p.knows)

-- the actors that are given out: so many schedulers, workers and clients of the source, and then the callers
abbrev pub everyone : ℕ → ℕ → ℕ → ℕ → List Actor
everyone schedulers workers clients callers =
    ((map (λ k. actor.Sched (scheduler k)) (range_with_len 0 schedulers) ++ map (λ k. actor.Worker k) (range_with_len 0 workers)) ++ map (λ k. actor.Client k) (range_with_len 0 clients))
    ++ map (λ k. actor.Client (clients + k)) (range_with_len 0 callers)
