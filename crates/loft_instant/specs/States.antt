-- A scheduler in memory between two instants.
use Rattle.std.specs.Prelude.{◌≡◌, ℕ, ℤ, ◌≤◌, ◌*◌, List, [], map, Option, Some, None}
use Rattle.loft_base.specs.declared.ids.SchedId.{SchedId}
use Rattle.loft_tree.specs.declared.heads.Heads.{Heads}
use Rattle.loft_board.specs.Board.{no_events}
use Rattle.loft_sense.specs.declared.limits.TheConstants.{MAX_ENTRIES}
use Rattle.loft_sense.specs.declared.tally.Tally.{Tally}
use Rattle.loft_sense.specs.Heads.{shared_values}
use Rattle.loft_sense.specs.Tally.{first_tally}
use Rattle.loft_sense.specs.Machine.{Prog, Mach}
use Rattle.loft_sense.specs.Apply.{Applied}
use Rattle.loft_sense.specs.Passes.{Walk, passes}
use Rattle.loft_sense.specs.Instant.{runner_of, around_of}
use Rattle.loft_instant.specs.declared.instant.State.{State}
use Rattle.loft_passes.specs.View.{standings_of}

abbrev pub machine_with : SchedId → State → Mach
machine_with s e = record { s = s; linked = standings_of e.linked.items; shared = e.shared; known = e.known; made = e.made; tally = e.tally }

-- what the passes and the close of an instant read of the machine before it
abbrev pub machine_before : SchedId → List ℤ → ℕ → Tally → Mach
machine_before s shared made tally = record { s = s; linked = []; shared = shared; known = []; made = made; tally = tally }

-- a scheduler of these declarations before its first instant
abbrev pub first_machine : Heads → SchedId → Mach
first_machine h s = machine_before s (shared_values h s) 0 (first_tally h s)

-- the passes after an applied batch
abbrev pub walk_from : Prog → ℕ → Mach → Applied → Walk
walk_from x budget m a = passes x (map (runner_of budget) a.linked) (around_of m a)

-- nothing is said of the machine after an instant that ran out of memory
abbrev pub machine_or_none : SchedId → Option State → Mach
machine_or_none s None = record { s = s; linked = []; shared = []; known = []; made = 0; tally = record { number = 0; bytes = 0; gone = 0 } }
machine_or_none s (Some e) = machine_with s e

abbrev pub machine_of : SchedId → Option State → Mach
machine_of s e = record (machine_or_none s e) { s = s }

-- For so many events and instants: no event is present, the creates are those of so many instants at most, and there are no
-- more instants than allowed.
pub record IsReady (events instants : ℕ) (e : State) : Type 0 where
  pub no_event : e.board ≡ no_events events
  pub few_made : e.made ≤ MAX_ENTRIES * e.tally.number
  pub few_instants : e.tally.number ≤ instants
