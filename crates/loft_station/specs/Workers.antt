-- A worker with its pass (docs/ACTORS.md, "Turns").
use Rattle.std.specs.Prelude.{◌≡◌, ◌⊎◌, ℕ, ◌+◌, ◌<◌, Bool, true, false, List, [], ◌∷◌, ◌++◌, map, length}
use Rattle.std.specs.List.{All, flat_map}
use Rattle.atomic_table.specs.Seated.{TableId}
use Rattle.loft_base.specs.declared.options.RunOptions.{RunOptions}
use Rattle.loft_code.specs.View.{automata_of}
use Rattle.loft_code.specs.declared.raw.CodeProgram.{CodeProgram}
use Rattle.loft_orders.specs.declared.entry.Actor.TheVariants as actor
use Rattle.loft_orders.specs.declared.entry.Entry.{Entry}
use Rattle.loft_orders.specs.declared.entry.Entry.TheVariants.{Pick, Post}
use Rattle.loft_orders.specs.declared.order.Sent.{Sent}
use Rattle.loft_orders.specs.declared.thread.Thread.{Thread}
use Rattle.loft_sense.specs.Async.{async}
use Rattle.loft_sense.specs.Machine.{Prog, Code}
use Rattle.loft_history.specs.History.{jobs, unposted, is_busy}
use Rattle.loft_history.specs.Legal.{IsFaithful}
use Rattle.loft_soundness.specs.Machines.{SentFits}
use Rattle.loft_conservation.specs.Blocks.{EndsAtLast}
use Rattle.loft_job.specs.declared.job.Job.{Job}
use Rattle.loft_job.specs.Job.{left_of_job}
use Rattle.loft_seat.specs.Seats.{entries_of, HasSame}
use Rattle.loft_station.specs.declared.worker.Worker.{Worker}

-- ---- a worker's own list

-- it has the entries that it has to make, with any options that have this bound of blocks
abbrev pub IsFaithfulTo : Prog → ℕ → ℕ → List Entry → Type 0
IsFaithfulTo x block w list = (o : RunOptions) → o.limits.block ≡ block → IsFaithful x o (actor.Worker w) list

-- its job in hand has still to post these orders, with any options that have this bound of blocks
abbrev pub HasLeft : Prog → ℕ → ℕ → List Entry → List Sent → Type 0
HasLeft x block w list left = (o : RunOptions) → o.limits.block ≡ block → unposted x o w list ≡ left

-- it has a job in hand exactly where something is left of one
abbrev pub IsInHand : ℕ → List Entry → List Sent → Type 0
IsInHand w list [] = is_busy w list ≡ false
IsInHand w list (m ∷ left) = (is_busy w list ≡ true) × EndsAtLast (m ∷ left)

abbrev pub posts_of : ℕ → List Sent → List Entry
posts_of w sents = map (λ m. Post w m) sents

abbrev pub picked_by : Entry → List Thread
picked_by (Pick w job) = job ∷ []
picked_by e = []

-- the threads that were picked
abbrev pub picked : List Entry → List Thread
picked es = flat_map picked_by es

-- ---- between two jobs, and within one

-- what it keeps whatever its turns answered: its pass, and the entries that it has to make
pub record IsKept (b : TableId) (x : CodeProgram) (v : Worker) : Type 0 where
  pub seat : HasSame b x (actor.Worker v.number) v.seat v.seat
  pub faithful : IsFaithfulTo (Code (automata_of x)) v.block v.number (entries_of v.seat)

-- it has still to post these orders, and they fit
pub record HasToPost (b : TableId) (x : CodeProgram) (left : List Sent) (v : Worker) : Type 0 where
  pub kept : IsKept b x v
  pub has : HasLeft (Code (automata_of x)) v.block v.number (entries_of v.seat) left
  pub hand : IsInHand v.number (entries_of v.seat) left
  pub fits : All (SentFits (Code (automata_of x))) left

-- between two jobs: it has none in hand
abbrev pub IsReady : TableId → CodeProgram → Worker → Type 0
IsReady b x v = HasToPost b x [] v

-- it is the same worker, with the same bound
pub record IsSame (old new : Worker) : Type 0 where
  pub number : new.number ≡ old.number
  pub block : new.block ≡ old.block

-- ---- what a turn did

-- how many jobs it has begun
abbrev pub jobs_in : Worker → ℕ
jobs_in v = length (picked (entries_of v.seat))

-- in the history that it saw last no thread waits for a worker
abbrev pub HasNoJob : Worker → Type 0
HasNoJob v = jobs v.seat.pass.knows.seen ≡ []

-- it has one job more: a Pick, and a Post of each order of that thread's block
pub record MadeJob (x : CodeProgram) (old new : Worker) : Type 0 where
  pub job : Thread
  pub entries : entries_of new.seat ≡ entries_of old.seat ++ Pick new.number job ∷ posts_of new.number (async (Code (automata_of x)) job new.block)
  pub one : jobs_in new ≡ jobs_in old + 1

-- a job was done; or none waited, and nothing was added
abbrev pub Worked : CodeProgram → Worker → Worker → Bool → Type 0
Worked x old new true = MadeJob x old new
Worked x old new false = HasNoJob new × (entries_of new.seat ≡ entries_of old.seat)

-- nothing was added, or a Pick and some of the Posts of that thread's block: all but these
abbrev pub AddedJobAtMost : CodeProgram → Worker → Worker → Type 0
AddedJobAtMost x old new =
    (entries_of new.seat ≡ entries_of old.seat)
    ⊎ ((job : Thread) × (rest : List Sent) × (entries_of new.seat ++ posts_of new.number rest ≡ entries_of old.seat ++ Pick new.number job ∷ posts_of new.number (async (Code (automata_of x)) job new.block)))

-- what was left has been posted, but for the rest
abbrev pub PostedBut : List Sent → List Sent → Worker → Worker → Type 0
PostedBut left rest old new = entries_of new.seat ++ posts_of new.number rest ≡ entries_of old.seat ++ posts_of new.number left

-- one order was posted, and the job has fewer left; or none was left
abbrev pub PostedNext : TableId → CodeProgram → Worker → Job → Worker → Job → Bool → Type 0
PostedNext b x old job new after true =
    HasToPost b x (left_of_job (automata_of x) after) new × (length (left_of_job (automata_of x) after) < length (left_of_job (automata_of x) job))
    × PostedBut (left_of_job (automata_of x) job) (left_of_job (automata_of x) after) old new
PostedNext b x old job new after false = IsReady b x new × PostedBut (left_of_job (automata_of x) job) [] old new

-- so many jobs were done, or none waits
abbrev pub HasWorked : ℕ → Worker → Worker → Type 0
HasWorked n old new = (jobs_in new ≡ jobs_in old + n) ⊎ HasNoJob new

-- what its share of a phase left
pub record WentOn (b : TableId) (x : CodeProgram) (old new : Worker) : Type 0 where
  pub kept : IsKept b x new
  pub same : IsSame old new
  pub ready : new.refused ≡ false → IsReady b x new
  pub made : new.refused ≡ false → HasWorked 32 old new
