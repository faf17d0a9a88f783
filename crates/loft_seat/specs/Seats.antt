-- A pass of one actor: what the actor has done, and what it saw (docs/ACTORS.md, "Steps").
use Rattle.std.specs.Prelude.{◌≡◌, ◌⊎◌, ℕ, true, false, List, [], ◌∷◌, ◌++◌, length, Some}
use Rattle.std.specs.List.{All}
use Rattle.atomic_table.specs.Seated.{TableId}
use Rattle.loft_base.specs.declared.ids.SchedId.{SchedId}
use Rattle.loft_base.specs.declared.options.Limits.{Limits}
use Rattle.loft_tree.specs.declared.heads.Place.TheVariants.{Unlinked}
use Rattle.loft_code.specs.View.{automata_of}
use Rattle.loft_code.specs.declared.raw.CodeProgram.{CodeProgram}
use Rattle.loft_orders.specs.declared.order.Order.{Order}
use Rattle.loft_orders.specs.declared.thread.Thread.{Thread}
use Rattle.loft_orders.specs.declared.entry.Actor.{Actor}
use Rattle.loft_orders.specs.declared.entry.Actor.TheVariants.{Sched, Worker}
use Rattle.loft_orders.specs.declared.entry.Entry.{Entry}
use Rattle.loft_orders.specs.declared.entry.Entry.TheVariants as entry
use Rattle.loft_sense.specs.Fits.{Fits}
use Rattle.loft_sense.specs.Machine.{Prog, Code, Mach}
use Rattle.loft_history.specs.History.{waiting, jobs, has_turn}
use Rattle.loft_history.specs.Legal.{actor_of, same_actor, of}
use Rattle.loft_soundness.specs.Machines.{ThreadFits}
use Rattle.loft_baton.specs.declared.knows.Own.{Own}
use Rattle.loft_baton.specs.Knowing.{IsIdle, own_of}
use Rattle.loft_baton.specs.PassValue.{PassValue}
use Rattle.loft_seat.specs.declared.seat.Seat.{Seat}

abbrev pub entries_in : List Own → List Entry
entries_in [] = []
entries_in (o ∷ own) = o.entries

-- the entries of the pass's one actor
abbrev pub entries_of : Seat → List Entry
entries_of v = entries_in v.pass.knows.own

-- an entry of this actor
abbrev pub IsOf : Actor → Entry → Type 0
IsOf a e = same_actor a (actor_of e) ≡ true

-- An idle pass of one actor for this code, which has made these entries. Where it has made some, it saw them all, and has kept how
-- long the history was that it saw last.
pub record IsSeat (b : TableId) (x : CodeProgram) (a : Actor) (list : List Entry) (v : Seat) : Type 0 where
  pub baton : v.pass.baton ≡ b
  pub idle : IsIdle v.pass.knows
  pub code : v.pass.knows.code ≡ Some x
  pub own : v.pass.knows.own ≡ own_of a list ∷ []
  pub mine : All (IsOf a) list
  pub current : (list ≡ []) ⊎ ((of a v.pass.knows.seen ≡ list) × (v.length ≡ length v.pass.knows.seen))

-- the actor has the entries that it had
abbrev pub HasSame : TableId → CodeProgram → Actor → Seat → Seat → Type 0
HasSame b x a old new = IsSeat b x a (entries_of old) new

-- the actor has this one entry more
abbrev pub HasMore : TableId → CodeProgram → Actor → Entry → Seat → Seat → Type 0
HasMore b x a e old new = IsSeat b x a (entries_of old ++ e ∷ []) new

-- a scheduler took this batch: its orders fit, and it has a turn to make on them
pub record Takes (b : TableId) (x : CodeProgram) (s : SchedId) (program : Prog) (limits : Limits) (m : Mach) (old new : Seat) (batch : List Order) : Type 0 where
  pub more : HasMore b x (Sched s) (entry.Take s batch) old new
  pub fits : All (Fits (Code (automata_of x)) s) batch
  pub turn : has_turn program limits m batch ≡ true

-- a scheduler took nothing: it has no turn to make on what waits for it in the history that it saw
pub record Idles (b : TableId) (x : CodeProgram) (s : SchedId) (program : Prog) (limits : Limits) (m : Mach) (old new : Seat) : Type 0 where
  pub kept : HasSame b x (Sched s) old new
  pub none : has_turn program limits m (waiting x.heads s new.pass.knows.seen) ≡ false

-- a worker picked this thread, which stands unlinked
pub record Picks (b : TableId) (x : CodeProgram) (w : ℕ) (old new : Seat) (job : Thread) : Type 0 where
  pub more : HasMore b x (Worker w) (entry.Pick w job) old new
  pub stands : ThreadFits (Code (automata_of x)) Unlinked job

-- a worker picked nothing: no thread waits in the history that it saw
pub record Finds (b : TableId) (x : CodeProgram) (w : ℕ) (old new : Seat) : Type 0 where
  pub kept : HasSame b x (Worker w) old new
  pub none : jobs new.pass.knows.seen ≡ []

-- ---- before the first step

-- an idle pass of one actor without entries
pub record IsNewPass (a : Actor) (p : PassValue) : Type 0 where
  pub idle : IsIdle p.knows
  pub own : p.knows.own ≡ own_of a [] ∷ []
