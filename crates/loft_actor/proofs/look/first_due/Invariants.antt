use Rattle.std.proofs.Common.{ℕ, ◌<◌, ◌≤◌, slice_index_or}
use Rattle.loft_station.specs.Stations.{StationView}
use Rattle.loft_actor.specs.Members.{RestsAfter}
use Rattle.loft_actor.proofs.look.first_due.Given as goal

-- the schedulers so far have no turn to make
abbrev pub invariant-loop-k : goal.invariant-loop-k
invariant-loop-k g l = (i : ℕ) (d : StationView) → l.fn.from ≤ i → i < l.k → RestsAfter l.c l.world.history (slice_index_or l.stations i d)
