-- What is answered of a file that may be a report.
use Rattle.std.specs.Prelude.{◌≡◌, List, ℕ, Result, Ok, Err}
use Rattle.loft_report_shape.specs.Told.{Report}
use Rattle.loft_report_reader.specs.Answer.{Answers, Verdict, report_in}
use Rattle.loft_report_reader.specs.declared.raw.RawReport.{RawReport}
use Rattle.loft_report_reader.specs.declared.error.LogError.{LogError}
use Rattle.loft_report_reader.specs.declared.error.LogError.TheVariants.{Line, Ends}
use Rattle.loft_report_file.specs.declared.error.ReportFileError.{ReportFileError}
use Rattle.loft_report_file.specs.declared.error.ReportFileError.TheVariants.{Failed, Log}

-- this is answered, or a fault of the files or want of memory in its place
abbrev pub FileAnswers : Result RawReport ReportFileError → Result Report LogError → Type 0
FileAnswers (Ok r) answer = answer ≡ Ok (report_in r)
FileAnswers (Err Failed) answer = Unit {0}
FileAnswers (Err (Log e)) answer = Answers (Err e) answer

-- what the answer says of the file
abbrev pub FileVerdict : List ℕ → Result RawReport ReportFileError → Type 0
FileVerdict file (Ok r) = Verdict file (Ok r)
FileVerdict file (Err Failed) = Unit {0}
FileVerdict file (Err (Log e)) = Verdict file (Err e)

-- It is answered that the file is a report, a prefix of one, or neither.
abbrev pub IsOfAll : Result RawReport ReportFileError → Type 0
IsOfAll (Ok r) = Unit {0}
IsOfAll (Err (Log (Line n k))) = Unit {0}
IsOfAll (Err (Log (Ends k))) = Unit {0}
IsOfAll (Err e) = ⊥
