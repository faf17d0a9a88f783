-- What a replay comes to, by its source and its report (docs/COMMANDS.md, "replay").
use Rattle.std.specs.Prelude.{◌≡◌, ℕ, ◌<◌, ◌≤◌, List, length, codes, Option, Some, None, Result, Ok, Err}
use Rattle.loft_tree.specs.declared.heads.Heads.{Heads}
use Rattle.loft_tree.specs.Source.{Source}
use Rattle.loft_tree.specs.Resolved.{resolved_of}
use Rattle.loft_numbers.specs.Numbers.{numbered}
use Rattle.loft_sense.specs.Heads.{scheduler}
use Rattle.loft_sense.specs.Machine.{Prog, Tree, heads}
use Rattle.loft_refusal.specs.Refusals.{IsSourceOf, Well, IsCause}
use Rattle.loft_commands.specs.Written.{IsLineOf}
use Rattle.loft_commands.specs.Asks.{asks_well}
use Rattle.loft_report_shape.specs.Report.{StopsAt, IsLine as StopsInLine, longest}
use Rattle.loft_report_reader.specs.declared.error.LogError.{LogError}
use Rattle.loft_report_reader.specs.declared.error.LogError.TheVariants as log
use Rattle.loft_replay.specs.Named.{scheduler_named}
use Rattle.loft_replay_error.specs.declared.error.ReplayError.TheVariants as error
use Rattle.loft_replay_report.specs.Replays.{IsReplayed, IsRefusalOf}
use Rattle.loft_block_replay.specs.Answer.{HasAnswer}
use Rattle.loft_replay_command.specs.declared.refusal.LogRefusal.{LogRefusal}
use Rattle.loft_replay_command.specs.declared.refusal.LogRefusal.TheVariants.{NoReport, Entry, Instant, Byte}
use Rattle.loft_replay_command.specs.declared.refusal.ReplayStop.{ReplayStop}
use Rattle.loft_replay_command.specs.declared.refusal.ReplayStop.TheVariants as stop

-- ---- reports

-- Why a text isn't a report: it is longer than 1 GiB; else it is a proper prefix of a report, or stops to be one in a line. Never for want
-- of memory.
abbrev pub IsNoReport : List ℕ → LogError → Type 0
IsNoReport text (log.Line n byte) = (length text ≤ longest) × StopsInLine text n byte
IsNoReport text (log.Ends byte) = (length text ≤ longest) × StopsAt text byte × (byte ≡ length text)
IsNoReport text log.TooLong = longest < length text
IsNoReport text log.NoMemory = ⊥

-- What the check of a whole report comes to: the line `ok` where the report is that of its own history, else why it isn't.
abbrev pub WholeComesTo : Prog → List ℕ → Result (List ℕ) LogRefusal → Type 0
WholeComesTo x report (Ok text) = IsReplayed x report × IsLineOf (codes "ok") text
WholeComesTo x report (Err (NoReport e)) = IsNoReport report e
WholeComesTo x report (Err (Entry n)) = IsRefusalOf x report (error.NotAllowed n)
WholeComesTo x report (Err (Instant n)) = ⊥
WholeComesTo x report (Err (Byte byte)) = IsRefusalOf x report (error.Differs byte)

-- What the check of the block of the scheduler with this number comes to: the block where it is that of the scheduler on the batches that
-- it prints, else why it isn't.
abbrev pub BlockComesTo : Prog → ℕ → List ℕ → Result (List ℕ) LogRefusal → Type 0
BlockComesTo x k report (Ok text) = HasAnswer x report (scheduler k) (Ok text)
BlockComesTo x k report (Err (NoReport e)) = IsNoReport report e
BlockComesTo x k report (Err (Entry n)) = ⊥
BlockComesTo x k report (Err (Instant n)) = HasAnswer x report (scheduler k) (Err (error.NotAllowed n))
BlockComesTo x k report (Err (Byte byte)) = HasAnswer x report (scheduler k) (Err (error.Differs byte))

-- of all of it, or of the block of the first scheduler of this name
abbrev pub ReportComesTo : Prog → Option (List ℕ) → List ℕ → Result (List ℕ) LogRefusal → Type 0
ReportComesTo x None report answer = WholeComesTo x report answer
ReportComesTo x (Some name) report answer = (k : ℕ) × (scheduler_named (heads x) name ≡ Some k) × BlockComesTo x k report answer

-- ---- sources

-- the contents are the text of this program, whose names and links are correct
abbrev pub IsWellSourceOf : List ℕ → Source → Type 0
IsWellSourceOf contents p = IsSourceOf contents p × Well p

-- a source as a program that runs by its statements
abbrev pub program_tree : Source → Prog
program_tree p = Tree (resolved_of (numbered p))

-- a name is given, and no scheduler of that name is declared
abbrev pub HasNoScheduler : Heads → Option (List ℕ) → Type 0
HasNoScheduler h None = ⊥
HasNoScheduler h (Some name) = scheduler_named h name ≡ None

-- why a source is refused, whatever the report: it isn't one whose names and links are correct, or it has no scheduler of the name
abbrev pub IsSourceStop : Option (List ℕ) → List ℕ → ReplayStop → Type 0
IsSourceStop only source (stop.Source r) = asks_well r × IsCause source r
IsSourceStop only source stop.UnknownScheduler = (p : Source) × IsWellSourceOf source p × HasNoScheduler (heads (program_tree p)) only
IsSourceStop only source (stop.Log r) = ⊥
IsSourceStop only source stop.FileFault = ⊥
IsSourceStop only source stop.SinkFault = ⊥
IsSourceStop only source stop.NoMemory = ⊥

-- ---- both

-- What the command comes to: the text that it writes, or what it refuses and why. The source comes first, then the name, then the report.
abbrev pub ReplayComesTo : Option (List ℕ) → (source report : List ℕ) → Result (List ℕ) ReplayStop → Type 0
ReplayComesTo only source report (Ok text) = (p : Source) × IsWellSourceOf source p × ReportComesTo (program_tree p) only report (Ok text)
ReplayComesTo only source report (Err (stop.Log r)) = (p : Source) × IsWellSourceOf source p × ReportComesTo (program_tree p) only report (Err r)
ReplayComesTo only source report (Err e) = IsSourceStop only source e
