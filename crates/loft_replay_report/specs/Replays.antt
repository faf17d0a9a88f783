-- Reports of their own histories (docs/REPORT.md, "Replay").
use Rattle.std.specs.Prelude.{◌≡◌, ℕ, ◌≤◌, List, length, Result, Ok, Err}
use Rattle.loft_orders.specs.declared.entry.Entry.{Entry}
use Rattle.loft_sense.specs.Machine.{Prog}
use Rattle.loft_history.specs.Report.{report}
use Rattle.loft_report_shape.specs.Told.{Report}
use Rattle.loft_report_shape.specs.Report.{Shape, longest}
use Rattle.loft_report_reader.specs.Answer.{Fault}
use Rattle.loft_report_reader.specs.declared.error.LogError.{LogError}
use Rattle.loft_report_reader.specs.declared.error.LogError.TheVariants as log
use Rattle.loft_replay.specs.Whole.{IsWhole, IsNotAllowed}
use Rattle.loft_replay_error.specs.Difference.{DifferAt}
use Rattle.loft_replay_error.specs.declared.error.ReplayError.{ReplayError}
use Rattle.loft_replay_error.specs.declared.error.ReplayError.TheVariants.{Log, NotAllowed, Differs, NoMemory}

-- the text that tells this report is the report of this history: its own choices make it with its own options, and it has ended
pub record IsReportOf (x : Prog) (text : List ℕ) (r : Report) (h : List Entry) : Type 0 where
  pub whole : IsWhole x r.options r.choices h
  pub same : text ≡ report x r.options h

-- what an error says of the text of a report
abbrev pub IsRefusal : Prog → List ℕ → Report → ReplayError → Type 0
IsRefusal x text r (Log e) = ⊥
IsRefusal x text r (NotAllowed entry) = IsNotAllowed x r.options r.choices entry
IsRefusal x text r (Differs byte) = (h : List Entry) × IsWhole x r.options r.choices h × DifferAt text (report x r.options h) byte
IsRefusal x text r NoMemory = Unit {0}

-- ---- texts

-- the text is a report
abbrev pub Tells : List ℕ → Report → Type 0
Tells text r = (length text ≤ longest) × Shape text r

-- The text is the report of a history that has ended, by the options and the choices that it names itself.
abbrev pub IsReplayed : Prog → List ℕ → Type 0
IsReplayed x text = (r : Report) × Tells text r × ((h : List Entry) × IsReportOf x text r h)

-- why the text isn't a report; never for want of memory
abbrev pub IsNoReport : List ℕ → LogError → Type 0
IsNoReport text log.NoMemory = ⊥
IsNoReport text e = Fault text e

-- what an error says of a text
abbrev pub IsRefusalOf : Prog → List ℕ → ReplayError → Type 0
IsRefusalOf x text (Log e) = IsNoReport text e
IsRefusalOf x text NoMemory = Unit {0}
IsRefusalOf x text e = (r : Report) × Tells text r × IsRefusal x text r e

-- ---- answers

-- it is accepted, or memory ran out
abbrev pub IsAccepted : {A : Type 0} → Result A ReplayError → Type 0
IsAccepted (Ok a) = Unit {0}
IsAccepted (Err NoMemory) = Unit {0}
IsAccepted (Err e) = ⊥

-- it is refused by this error, or memory ran out
abbrev pub IsRefused : {A : Type 0} → Result A ReplayError → ReplayError → Type 0
IsRefused (Ok a) error = ⊥
IsRefused (Err NoMemory) error = Unit {0}
IsRefused (Err e) error = e ≡ error
