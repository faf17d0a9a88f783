-- By which lines `replay` refuses its source, and its report (docs/COMMANDS.md, "Fault lines").
use Rattle.std.specs.Prelude.{◌≡◌, ℕ, List, [], Option, Err}
use Rattle.loft_refusal.specs.Refusals.{line_of}
use Rattle.loft_replay_command.specs.Replay.{IsSourceStop, ReplayComesTo}
use Rattle.loft_replay_command.specs.Refusals.{unknown_scheduler_line, log_line}
use Rattle.loft_replay_command.specs.declared.refusal.LogRefusal.{LogRefusal}
use Rattle.loft_replay_command.specs.declared.refusal.ReplayStop.{ReplayStop}
use Rattle.loft_replay_command.specs.declared.refusal.ReplayStop.TheVariants as stop

-- the line of a refusal of the source; other stops have none
abbrev pub source_stop_line : ReplayStop → List ℕ
source_stop_line (stop.Source r) = line_of r
source_stop_line stop.UnknownScheduler = unknown_scheduler_line
source_stop_line (stop.Log r) = []
source_stop_line stop.FileFault = []
source_stop_line stop.SinkFault = []
source_stop_line stop.NoMemory = []

-- the source is refused by this line, whatever the report
abbrev pub ReplayRefusesSource : Option (List ℕ) → List ℕ → List ℕ → Type 0
ReplayRefusesSource only source line = (e : ReplayStop) × IsSourceStop only source e × (line ≡ source_stop_line e)

-- the report is refused by this line
abbrev pub ReplayRefusesReport : Option (List ℕ) → (source report line : List ℕ) → Type 0
ReplayRefusesReport only source report line = (l : LogRefusal) × ReplayComesTo only source report (Err (stop.Log l)) × (line ≡ log_line l)
