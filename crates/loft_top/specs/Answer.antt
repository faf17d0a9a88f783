-- What the program promises of its answer to a command.
use Rattle.std.specs.Prelude.{◌≡◌, ◌≢◌, ℕ, ◌⊎◌, Bool, List, codes, Option, Some, Ok, IsTrue}
use Rattle.loft_base.specs.Outside.{Rose}
use Rattle.loft_gen.specs.Generated.{generated}
use Rattle.loft_generated_run.specs.Summary.{IsSummary}
use Rattle.loft_refusal.specs.Input.{Input}
use Rattle.loft_refusal.specs.Refusals.{IsTextOf}
use Rattle.loft_arguments.specs.Command.{Command, OfFile, Replay, Gen, GenRun}
use Rattle.loft_commands.specs.Written.{AppendsSome, IsLineOf, IsPrefix, HasNoRoom}
use Rattle.loft_commands.specs.Asks.{RefusesFile, Takes}
use Rattle.loft_commands.specs.Promise.{IsFileAnswer}
use Rattle.loft_replay_command.specs.Replay.{ReplayComesTo}
use Rattle.loft_top.specs.declared.status.Status.{Status}
use Rattle.loft_top.specs.declared.status.Status.TheVariants as status
use Rattle.loft_top.specs.Status.{IsRefusedStatus, IsLogRefused, IsAccepted}
use Rattle.loft_top.specs.Reads.{OfOne, OfTwo}
use Rattle.loft_top.specs.Reports.{ReplayRefusesSource, ReplayRefusesReport}

-- what a command answers, where its files have these contents: that of its one file, what a report comes to by its
-- source, the source of a number, or the summary of a run of it
abbrev pub IsAnswer : Command → List (List ℕ) → List ℕ → Type 0
IsAnswer (OfFile c) contents text = OfOne (λ file. IsFileAnswer c file text) contents
IsAnswer (Replay source report only) contents text = OfTwo (λ s r. ReplayComesTo only s r (Ok text)) contents
IsAnswer (Gen number) contents text = text ≡ generated number
IsAnswer (GenRun number) contents text = IsSummary number text

-- a command refuses these contents by this line: what it reads as a source, a listing or a text with locks
abbrev pub Refuses : Command → List (List ℕ) → List ℕ → Type 0
Refuses (OfFile c) contents line = OfOne (λ file. RefusesFile c file line) contents
Refuses (Replay source report only) contents line = OfTwo (λ s r. ReplayRefusesSource only s line) contents
Refuses (Gen number) contents line = ⊥
Refuses (GenRun number) contents line = ⊥

-- it refuses them by this line for the report that it reads
abbrev pub RefusesLog : Command → List (List ℕ) → List ℕ → Type 0
RefusesLog (OfFile c) contents line = ⊥
RefusesLog (Replay source report only) contents line = OfTwo (λ s r. ReplayRefusesReport only s r line) contents
RefusesLog (Gen number) contents line = ⊥
RefusesLog (GenRun number) contents line = ⊥

-- the text is the line with which a command refuses these contents, or the report among them
abbrev pub IsRefusal : Command → List (List ℕ) → List ℕ → Type 0
IsRefusal c contents text = (line : List ℕ) × Refuses c contents line × IsLineOf line text

abbrev pub IsLogRefusal : Command → List (List ℕ) → List ℕ → Type 0
IsLogRefusal c contents text = (line : List ℕ) × RefusesLog c contents line × IsLineOf line text

-- the contents are what a command takes
abbrev pub AreTaken : Command → List (List ℕ) → Type 0
AreTaken (OfFile c) contents = OfOne (λ file. (x : Input) × IsTextOf file x × Takes c x) contents
AreTaken (Replay source report only) contents = OfTwo (λ s r. (text : List ℕ) × ReplayComesTo only s r (Ok text)) contents
AreTaken (Gen number) contents = Unit {0}
AreTaken (GenRun number) contents = Unit {0}

-- the command reads a report
abbrev pub ReadsReport : Command → Type 0
ReadsReport (OfFile c) = ⊥
ReadsReport (Replay source report only) = Unit {0}
ReadsReport (Gen number) = ⊥
ReadsReport (GenRun number) = ⊥

-- what a command may write; the count of the files' faults was `before`, and is `after`
abbrev pub IsText : Command → List (List ℕ) → ℕ → ℕ → List ℕ → Type 0
IsText c contents before after text =
    IsAnswer c contents text ⊎ (IsRefusal c contents text ⊎ (IsLogRefusal c contents text ⊎ (IsLineOf (codes "files: fault") text × Rose before after)))

-- A command ends so, where this is known of its files; the sink tells of `old` before it and of `new` after it, and the
-- count of the files' faults was `before`, and is `after`. The sink was known to take `room` more bytes; whether each piece that it took was a
-- line is known as `lines` before it, and as `still` after it.
pub record Answers (c : Command) (known : Option (List (List ℕ))) (end : Status) (old new : Option (List ℕ)) (before after room : ℕ) (lines still : Bool) : Type 0 where
  pub done : (contents : List (List ℕ)) → known ≡ Some contents → end ≡ status.Done → AppendsSome old new (IsAnswer c contents)
  pub source : (contents : List (List ℕ)) → known ≡ Some contents → end ≡ status.Source → AppendsSome old new (IsRefusal c contents)
  pub log : (contents : List (List ℕ)) → known ≡ Some contents → end ≡ status.Log → AppendsSome old new (IsLogRefusal c contents)
  pub refused : (contents : List (List ℕ)) (line : List ℕ) → known ≡ Some contents → Refuses c contents line → IsRefusedStatus end
  pub log_refused : (contents : List (List ℕ)) (line : List ℕ) → known ≡ Some contents → RefusesLog c contents line → IsLogRefused end
  pub accepted : (contents : List (List ℕ)) → known ≡ Some contents → AreTaken c contents → IsAccepted end
  pub prefix : (contents : List (List ℕ)) → known ≡ Some contents → end ≡ status.SinkFault ⊎ end ≡ status.NoMemory → AppendsSome old new (IsPrefix (IsText c contents before after))
  pub file_line : end ≡ status.FileFault → AppendsSome old new (IsLineOf (codes "files: fault"))
  pub never_usage : end ≢ status.Usage
  pub log_reads : end ≡ status.Log → ReadsReport c
  pub no_room : (contents : List (List ℕ)) → known ≡ Some contents → end ≡ status.SinkFault → HasNoRoom room (IsText c contents before after)
  pub by_lines : IsTrue lines → IsTrue still
