-- The actors of a run, the pass that gives out theirs and gets them back, and when a run is over (docs/ACTORS.md, "Runs").
use Rattle.std.specs.Prelude.{◌≡◌, ℕ, ◌<◌, ◌≤◌, true, false, List, [], ◌++◌, map, length, slice_index_or, Some}
use Rattle.std.specs.List.{All}
use mathlib.Core.List.{IsPrefix}
use Rattle.atomic_table.specs.Seated.{TableId}
use Rattle.loft_base.specs.declared.options.Limits.{Limits}
use Rattle.loft_code.specs.View.{automata_of}
use Rattle.loft_code.specs.declared.raw.CodeProgram.{CodeProgram}
use Rattle.loft_orders.specs.declared.entry.Actor.{Actor}
use Rattle.loft_orders.specs.declared.entry.Actor.TheVariants as actor
use Rattle.loft_orders.specs.declared.entry.Entry.{Entry}
use Rattle.loft_sense.specs.Heads.{scheduler}
use Rattle.loft_sense.specs.Machine.{Code}
use Rattle.loft_history.specs.History.{waiting, jobs, has_turn}
use Rattle.loft_baton.specs.declared.knows.Own.{Own}
use Rattle.loft_baton.specs.Knowing.{IsIdle, own_of}
use Rattle.loft_baton.specs.PassValue.{PassValue}
use Rattle.loft_seat.specs.declared.seat.Seat.{Seat}
use Rattle.loft_seat.specs.Seats.{entries_of}
use Rattle.loft_station.specs.declared.worker.Worker.{Worker}
use Rattle.loft_station.specs.declared.outsider.Outsider.{Outsider}
use Rattle.loft_station.specs.Stations as station
use Rattle.loft_station.specs.Workers as worker
use Rattle.loft_station.specs.Outsiders as outsider

-- P holds of the element at each index
abbrev pub AtIndex : {A : Type 0} → (ℕ → A → Type 0) → List A → Type 0
AtIndex {A} P xs = (i : ℕ) (d : A) → i < length xs → P i (slice_index_or xs i d)

-- ---- the giving pass

-- it gave out these actors, and has none of its own
pub record IsGiver (b : TableId) (x : CodeProgram) (given : List Actor) (p : PassValue) : Type 0 where
  pub baton : p.baton ≡ b
  pub idle : IsIdle p.knows
  pub code : p.knows.code ≡ Some x
  pub gives : p.knows.gives ≡ true
  pub given_out : p.knows.given ≡ given
  pub own : p.knows.own ≡ []

-- ---- the actors, each at the index that is its number

pub record IsStationOf (b : TableId) (x : CodeProgram) (l : Limits) (i : ℕ) (v : station.StationView) : Type 0 where
  pub ready : station.IsReady b x v
  pub scheduler : v.scheduler ≡ scheduler i
  pub limits : v.limits ≡ l

pub record IsWorkerOf (b : TableId) (x : CodeProgram) (block : ℕ) (i : ℕ) (v : Worker) : Type 0 where
  pub ready : worker.IsReady b x v
  pub number : v.number ≡ i
  pub bound : v.block ≡ block

pub record IsOutsiderOf (b : TableId) (x : CodeProgram) (i : ℕ) (v : Outsider) : Type 0 where
  pub ready : outsider.IsReady b x v
  pub client : v.client ≡ i

-- an actor with its seat
pub record Member : Type 0 where
  pub who : Actor
  pub seat : Seat

abbrev pub station_member : station.StationView → Member
station_member v = record { who = actor.Sched v.scheduler; seat = v.seat }

abbrev pub worker_member : Worker → Member
worker_member v = record { who = actor.Worker v.number; seat = v.seat }

abbrev pub outsider_member : Outsider → Member
outsider_member v = record { who = actor.Client v.client; seat = v.seat }

abbrev pub members_of : List station.StationView → List Worker → List Outsider → List Member
members_of ss ws os = (map station_member ss ++ map worker_member ws) ++ map outsider_member os

abbrev pub names_of : List Member → List Actor
names_of ms = map (λ m. m.who) ms

abbrev pub owns_of : List Member → List Own
owns_of ms = map (λ m. own_of m.who (entries_of m.seat)) ms

-- ---- passes that come together

-- each history that goes on from what the pass remembers begins with these entries
abbrev pub Remembers : PassValue → List Entry → Type 0
Remembers p s = (h : List Entry) → IsPrefix p.knows.seen h → All (λ t. IsPrefix t h) p.knows.olds → IsPrefix s h

-- w is v with the passes of these members joined to it
pub record Joins (b : TableId) (v : PassValue) (ms : List Member) (w : PassValue) : Type 0 where
  pub baton : w.baton ≡ b
  pub idle : IsIdle w.knows
  pub gives : w.knows.gives ≡ true
  pub given : w.knows.given ≡ v.knows.given
  pub code : w.knows.code ≡ v.knows.code
  pub own : w.knows.own ≡ v.knows.own ++ owns_of ms
  pub keeps : (s : List Entry) → Remembers v s → Remembers w s
  pub seen : All (λ m. Remembers w m.seat.pass.knows.seen) ms

-- ---- the look between two phases

-- the scheduler has no turn to make after this history
abbrev pub RestsAfter : CodeProgram → List Entry → station.StationView → Type 0
RestsAfter x h v = has_turn (Code (automata_of x)) v.limits v.machine (waiting x.heads v.scheduler h) ≡ false

-- so do all schedulers from this index on
abbrev pub RestFrom : CodeProgram → List Entry → ℕ → List station.StationView → Type 0
RestFrom x h from ss = (i : ℕ) (d : station.StationView) → from ≤ i → i < length ss → RestsAfter x h (slice_index_or ss i d)

-- the history is at least as long as what was seen last
abbrev pub SawNoMore : List Entry → Seat → Type 0
SawNoMore h v = v.length ≤ length h

-- Nobody has anything to do after this history, and nobody has seen more than it.
pub record IsOver (x : CodeProgram) (h : List Entry) (ss : List station.StationView) (ws : List Worker) (os : List Outsider) : Type 0 where
  pub turns : All (RestsAfter x h) ss
  pub no_jobs : jobs h ≡ []
  pub orders : All (outsider.HasGivenAll x) os
  pub stations : All (λ v. SawNoMore h v.seat) ss
  pub workers : All (λ v. SawNoMore h v.seat) ws
  pub outsiders : All (λ v. SawNoMore h v.seat) os
