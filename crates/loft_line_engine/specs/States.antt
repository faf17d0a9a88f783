-- A scheduler in memory between two instants, with the waits of its threads (docs/SEMANTICS.md, "Instant").
use Rattle.std.specs.Prelude.{◌≡◌, ℕ, ◌≤◌, ◌*◌, [], Option, Some, None}
use Rattle.loft_base.specs.declared.ids.SchedId.{SchedId}
use Rattle.loft_base.specs.declared.options.Limits.{Limits}
use Rattle.loft_board.specs.Board.{no_events}
use Rattle.loft_sense.specs.declared.limits.TheConstants.{MAX_ENTRIES}
use Rattle.loft_sense.specs.Machine.{Mach}
use Rattle.loft_line.specs.Line.{runners_in, standings_in, IsIdle, IsQuiet}
use Rattle.loft_waits.specs.Told.{no_counts}
use Rattle.loft_line_engine.specs.declared.state.State.{State}

abbrev pub machine_with : SchedId → State → Mach
machine_with s e = record { s = s; linked = standings_in (runners_in e.line); shared = e.shared; known = e.known; made = e.made; tally = e.tally }

-- nothing is said of the machine after an instant that ran out of memory
abbrev pub machine_or_none : SchedId → Option State → Mach
machine_or_none s None = record { s = s; linked = []; shared = []; known = []; made = 0; tally = record { number = 0; bytes = 0; gone = 0 } }
machine_or_none s (Some e) = machine_with s e

abbrev pub machine_of : SchedId → Option State → Mach
machine_of s e = record (machine_or_none s e) { s = s }

-- After so many closes, of so many events none is present; nobody has run, and the waits were told so and who is known as ended.
pub record IsClosed (events budget closes : ℕ) (e : State) : Type 0 where
  pub idle : IsIdle e.line
  pub quiet : IsQuiet e.line
  pub counts : e.line.waits.counts ≡ no_counts events
  pub ended : e.line.waits.ended ≡ e.known
  pub closes_are : e.line.waits.closes ≡ closes
  pub budget_is : e.line.budget ≡ budget
  pub no_event : e.board ≡ no_events events

-- Between two instants: the creates are those of so many instants at most, and there are no more instants than allowed.
pub record IsReady (events : ℕ) (limits : Limits) (e : State) : Type 0 where
  pub closed : IsClosed events limits.budget e.tally.number e
  pub few_made : e.made ≤ MAX_ENTRIES * e.tally.number
  pub few_instants : e.tally.number ≤ limits.instants
