-- What a reader of pieces has read.
use Rattle.std.specs.Prelude.{◌≡◌, ℕ, ◌+◌, ◌<◌, ◌≤◌, ◌==◌, List, length, take, Option, Some, None, Ok, if◌then◌else◌}
use Rattle.loft_spelling.specs.Parts.{script, takes}
use Rattle.loft_spelling.specs.Reading.{run, opening}
use Rattle.loft_report_shape.specs.Report.{grammar, beginning, IsLine, feeds, longest}
use Rattle.loft_report_reader.specs.Machine.{machine_of}
use Rattle.loft_report_reader.specs.declared.machine.Machine.{Machine}
use Rattle.loft_report_reader.specs.declared.error.LogError.{LogError}
use Rattle.loft_report_reader.specs.declared.error.LogError.TheVariants.{Line, Ends, TooLong, NoMemory}

-- why a reader gave up in a text, of which it may not have seen the rest
abbrev pub Cause : LogError → List ℕ → Type 0
Cause (Line n k) text = IsLine text n k
Cause (Ends k) text = ⊥
Cause TooLong text = longest < length text
Cause NoMemory text = Unit {0}

-- A machine, how many bytes and line feeds it took, and the text: it was read to its end.
pub record Reading (m : Machine) (size lines : ℕ) (text : List ℕ) : Type 0 where
  pub within : length text ≤ longest
  pub size_is : size ≡ length text
  pub lines_are : lines ≡ feeds text
  pub state : run (script grammar) (takes grammar) text (opening (script grammar) (takes grammar) beginning) ≡ Ok (machine_of m)

-- the text was read, or an error has its cause in it
abbrev pub ReadUpTo : Option LogError → Machine → ℕ → ℕ → List ℕ → Type 0
ReadUpTo None m size lines text = Reading m size lines text
ReadUpTo (Some e) m size lines text = Cause e text

-- the error of a text that stops there
abbrev pub error_at : List ℕ → ℕ → LogError
error_at text k = if k == length text then Ends k else Line (feeds (take k text) + 1) k
