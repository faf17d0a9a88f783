-- What a reader has read, and its answers (docs/REPORT.md, "The grammar").
use Rattle.std.specs.Prelude.{◌≡◌, ℕ, ◌<◌, ◌≤◌, List, length, None, Some, Result, Ok, Err}
use Rattle.loft_report_shape.specs.Told.{Report}
use Rattle.loft_report_shape.specs.Report.{Shape, StopsAt, IsLine, longest}
use Rattle.loft_report_reader.specs.Log.{ReadUpTo}
use Rattle.loft_report_reader.specs.declared.raw.RawReport.{RawReport}
use Rattle.loft_report_reader.specs.declared.log.LogReader.{LogReader}
use Rattle.loft_report_reader.specs.declared.error.LogError.{LogError}
use Rattle.loft_report_reader.specs.declared.error.LogError.TheVariants.{Line, Ends, TooLong, NoMemory}

abbrev pub report_in : RawReport → Report
report_in r = record { options = r.options; choices = r.choices; blocks = r.blocks; left = r.left }

-- the reader was given this text, in whatever pieces
abbrev pub HasRead : LogReader → List ℕ → Type 0
HasRead r text = ReadUpTo r.error r.machine r.length r.feeds text

-- the reader has answered no error
abbrev pub IsReading : LogReader → Type 0
IsReading r = r.error ≡ None

-- the reader has answered this error
abbrev pub GaveUp : LogReader → LogError → Type 0
GaveUp r e = r.error ≡ Some e

-- an error is kept
abbrev pub Keeps : {A : Type 0} → Result A LogError → LogReader → Type 0
Keeps (Ok x) r = IsReading r
Keeps (Err e) r = GaveUp r e

-- this is answered, or memory ran out
abbrev pub Answers : Result RawReport LogError → Result Report LogError → Type 0
Answers (Ok r) answer = answer ≡ Ok (report_in r)
Answers (Err NoMemory) answer = Unit {0}
Answers (Err e) answer = answer ≡ Err e

-- the same for a part of a report
abbrev pub Says : {A : Type 0} → Result A LogError → Result A LogError → Type 0
Says (Ok x) answer = answer ≡ Ok x
Says (Err NoMemory) answer = Unit {0}
Says (Err e) answer = answer ≡ Err e

-- what an error says of a whole text
abbrev pub Fault : List ℕ → LogError → Type 0
Fault text (Line n k) = IsLine text n k
Fault text (Ends k) = (length text ≤ longest) × StopsAt text k × (k ≡ length text)
Fault text TooLong = longest < length text
Fault text NoMemory = Unit {0}

-- what the answer says of a whole text
abbrev pub Verdict : List ℕ → Result RawReport LogError → Type 0
Verdict text (Ok r) = (length text ≤ longest) × Shape text (report_in r)
Verdict text (Err e) = Fault text e
