-- A scheduler with its engine and its pass (docs/ACTORS.md, "Turns").
use Rattle.std.specs.Prelude.{◌≡◌, ◌⊎◌, ℕ, ◌+◌, Bool, true, false, List, [], ◌∷◌, ◌++◌, length, Some}
use Rattle.std.specs.List.{All}
use Rattle.atomic_table.specs.Seated.{TableId}
use Rattle.loft_base.specs.declared.ids.SchedId.{SchedId}
use Rattle.loft_base.specs.declared.options.Limits.{Limits}
use Rattle.loft_base.specs.declared.options.RunOptions.{RunOptions}
use Rattle.loft_tree.specs.NamedFits.{IsScheduler}
use Rattle.loft_code.specs.View.{automata_of}
use Rattle.loft_code.specs.declared.raw.CodeProgram.{CodeProgram}
use Rattle.loft_orders.specs.declared.entry.Actor.TheVariants.{Sched}
use Rattle.loft_orders.specs.declared.entry.Entry.{Entry}
use Rattle.loft_orders.specs.declared.entry.Entry.TheVariants.{Take, Give}
use Rattle.loft_orders.specs.declared.note.InstantNote.{InstantNote}
use Rattle.loft_orders.specs.declared.order.Order.{Order}
use Rattle.loft_sense.specs.Fits.{Fits}
use Rattle.loft_sense.specs.Machine.{Prog, Code, Mach}
use Rattle.loft_history.specs.History.{log, is_open, waiting, has_turn, sent_last}
use Rattle.loft_history.specs.Legal.{IsFaithful}
use Rattle.loft_turn_parts.specs.Turns.{IsReplay}
use Rattle.loft_seat.specs.declared.seat.Seat.{Seat}
use Rattle.loft_seat.specs.Seats.{entries_of, HasSame}

-- What contracts see of a scheduler that goes on by itself. Its engine runs the code that its pass is for.
pub record StationView : Type 0 where
  pub seat : Seat
  pub scheduler : SchedId
  pub limits : Limits
  pub machine : Mach
  pub failed : Bool
  pub notes : List InstantNote
  pub refused : Bool

-- the engine's program is the code that the pass is for
abbrev pub RunsCode : Prog → Seat → Type 0
RunsCode program p = (x : CodeProgram) → p.pass.knows.code ≡ Some x → program ≡ Code (automata_of x)

-- ---- a scheduler's own list

-- it has the entries that it has to make, with any options that have these bounds
abbrev pub IsFaithfulTo : Prog → Limits → SchedId → List Entry → Type 0
IsFaithfulTo x l s list = (o : RunOptions) → o.limits ≡ l → IsFaithful x o (Sched s) list

-- Between two instants: none of its Takes is open, it stands as the replay of its own entries leaves it, and each batch that it
-- took fits.
pub record IsAtRest (x : Prog) (l : Limits) (s : SchedId) (list : List Entry) (m : Mach) (notes : List InstantNote) : Type 0 where
  pub closed : is_open s list ≡ false
  pub replay : IsReplay x l s list m notes
  pub fits : All (All (Fits x s)) (log s list)

-- ---- between two turns, and within one

-- what it keeps whatever its turns answered: its pass, and the entries that it has to make
pub record IsKept (b : TableId) (x : CodeProgram) (v : StationView) : Type 0 where
  pub declared : IsScheduler x.heads v.scheduler
  pub seat : HasSame b x (Sched v.scheduler) v.seat v.seat
  pub faithful : IsFaithfulTo (Code (automata_of x)) v.limits v.scheduler (entries_of v.seat)

-- between two turns, where memory was there: its machine and its notes are those of the replay of its own entries
pub record IsReady (b : TableId) (x : CodeProgram) (v : StationView) : Type 0 where
  pub kept : IsKept b x v
  pub works : v.failed ≡ false
  pub rests : IsAtRest (Code (automata_of x)) v.limits v.scheduler (entries_of v.seat) v.machine v.notes

-- After these entries it took this batch, which fits and on which it has a turn to make; the instant is still to be made.
pub record HasTaken (b : TableId) (x : CodeProgram) (before : List Entry) (v : StationView) (batch : List Order) : Type 0 where
  pub kept : IsKept b x v
  pub works : v.failed ≡ false
  pub entries : entries_of v.seat ≡ before ++ Take v.scheduler batch ∷ []
  pub rested : IsAtRest (Code (automata_of x)) v.limits v.scheduler before v.machine v.notes
  pub turn : has_turn (Code (automata_of x)) v.limits v.machine batch ≡ true
  pub fits : All (Fits (Code (automata_of x)) v.scheduler) batch

-- it is the same scheduler, with the same bounds
pub record IsSame (old new : StationView) : Type 0 where
  pub scheduler : new.scheduler ≡ old.scheduler
  pub limits : new.limits ≡ old.limits

-- ---- what a turn did

-- how many turns it has begun
abbrev pub turns_in : StationView → ℕ
turns_in v = length (log v.scheduler (entries_of v.seat))

-- in the history that it saw last it has no turn to make
abbrev pub HasNoTurn : CodeProgram → StationView → Type 0
HasNoTurn x v = has_turn (Code (automata_of x)) v.limits v.machine (waiting x.heads v.scheduler v.seat.pass.knows.seen) ≡ false

-- it has two entries more: a Take, and the Give of what the instant on that sent
pub record MadeTurn (old new : StationView) : Type 0 where
  pub batch : List Order
  pub entries : entries_of new.seat ≡ entries_of old.seat ++ Take new.scheduler batch ∷ Give new.scheduler (sent_last new.notes) ∷ []
  pub one : turns_in new ≡ turns_in old + 1

-- a turn was made; or there was none to make, and nothing was added
abbrev pub Turned : CodeProgram → StationView → StationView → Bool → Type 0
Turned x old new true = MadeTurn old new
Turned x old new false = HasNoTurn x new × (entries_of new.seat ≡ entries_of old.seat)

-- nothing was added, or a Take alone
abbrev pub AddedTakeAtMost : StationView → StationView → Type 0
AddedTakeAtMost old new = (entries_of new.seat ≡ entries_of old.seat) ⊎ ((batch : List Order) × (entries_of new.seat ≡ entries_of old.seat ++ Take new.scheduler batch ∷ []))

-- so many turns were made, or there is none to make
abbrev pub HasMade : ℕ → CodeProgram → StationView → StationView → Type 0
HasMade n x old new = (turns_in new ≡ turns_in old + n) ⊎ HasNoTurn x new

-- what its share of a phase left
pub record WentOn (b : TableId) (x : CodeProgram) (old new : StationView) : Type 0 where
  pub kept : IsKept b x new
  pub same : IsSame old new
  pub ready : new.refused ≡ false → IsReady b x new
  pub made : new.refused ≡ false → HasMade 32 x old new
