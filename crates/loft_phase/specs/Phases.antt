-- What a phase leaves of all actors (docs/ACTORS.md, "Phases").
use Rattle.std.specs.Prelude.{◌≡◌, ◌≢◌, false, ℕ, ◌<◌, List, length, slice_index_or}
use Rattle.atomic_table.specs.Seated.{TableId}
use Rattle.loft_code.specs.declared.raw.CodeProgram.{CodeProgram}
use Rattle.loft_station.specs.declared.worker.Worker.{Worker}
use Rattle.loft_station.specs.declared.outsider.Outsider.{Outsider}
use Rattle.loft_station.specs.Stations as station
use Rattle.loft_station.specs.Workers as worker
use Rattle.loft_station.specs.Outsiders as outsider

-- R holds of the elements at each index
abbrev pub AtEachIndex : {A : Type 0} → (A → A → Type 0) → List A → List A → Type 0
AtEachIndex {A} R xs ys = (i : ℕ) (d : A) → i < length xs → R (slice_index_or xs i d) (slice_index_or ys i d)

-- as many elements, and R at each index
abbrev pub Stay : {A : Type 0} → (A → A → Type 0) → List A → List A → Type 0
Stay {A} R xs ys = (length ys ≡ length xs) × AtEachIndex R xs ys

-- the same scheduler, with the entries that it has to make
abbrev pub StationStays : TableId → CodeProgram → station.StationView → station.StationView → Type 0
StationStays b x old new = station.IsKept b x new × station.IsSame old new

-- the same worker, with the entries that it has to make
abbrev pub WorkerStays : TableId → CodeProgram → Worker → Worker → Type 0
WorkerStays b x old new = worker.IsKept b x new × worker.IsSame old new

-- the same client, with the entries that it has to make
abbrev pub OutsiderStays : TableId → CodeProgram → Outsider → Outsider → Type 0
OutsiderStays b x old new = outsider.IsReady b x new × outsider.IsSame old new

-- as many elements: R at this index, and the others as they were
abbrev pub GoesOnAt : {A : Type 0} → (A → A → Type 0) → ℕ → List A → List A → Type 0
GoesOnAt {A} R k xs ys = (length ys ≡ length xs) × ((i : ℕ) (d : A) → i < length xs → (i ≡ k → R (slice_index_or xs i d) (slice_index_or ys i d)) × (i ≢ k → slice_index_or ys i d ≡ slice_index_or xs i d))

-- the same worker, with the entries that it has to make; where memory wasn't refused to it, it has no job in hand
pub record WorkedOn (b : TableId) (x : CodeProgram) (old new : Worker) : Type 0 where
  pub kept : worker.IsKept b x new
  pub same : worker.IsSame old new
  pub ready : new.refused ≡ false → worker.IsReady b x new

-- the same scheduler, with the entries that it has to make; where memory wasn't refused to it, none of its Takes is open
pub record TurnedOn (b : TableId) (x : CodeProgram) (old new : station.StationView) : Type 0 where
  pub kept : station.IsKept b x new
  pub same : station.IsSame old new
  pub ready : new.refused ≡ false → station.IsReady b x new
