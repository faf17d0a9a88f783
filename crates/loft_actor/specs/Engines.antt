-- What the engines of a run show before it and after it (docs/ACTORS.md, "Runs").
use Rattle.std.specs.Prelude.{ℕ, Bool, false, List}
use Rattle.loft_base.specs.declared.ids.SchedId.{SchedId}
use Rattle.loft_base.specs.declared.options.Limits.{Limits}
use Rattle.loft_orders.specs.declared.entry.Entry.{Entry}
use Rattle.loft_sense.specs.Heads.{scheduler}
use Rattle.loft_sense.specs.Machine.{Prog, Mach, empty}
use Rattle.loft_history.specs.History.{replayed}

-- what contracts see of an engine
pub record Shown : Type 0 where
  pub program : Prog
  pub scheduler : SchedId
  pub limits : Limits
  pub machine : Mach
  pub failed : Bool

abbrev pub shown : Prog → SchedId → Limits → Mach → Bool → Shown
shown x s l m failed = record { program = x; scheduler = s; limits = l; machine = m; failed = failed }

-- the engine of the scheduler of this index, which has made no instant
abbrev pub new_engine : Prog → Limits → ℕ → Shown
new_engine x l k = shown x (scheduler k) l (empty x (scheduler k)) false

-- the engine of the scheduler of this index as the replay of the history leaves it
abbrev pub engine_after : Prog → Limits → List Entry → ℕ → Shown
engine_after x l h k = shown x (scheduler k) l (replayed x l (scheduler k) h).machine false
