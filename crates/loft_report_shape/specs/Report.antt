-- What a report is, and where a text stops to be one.
use Rattle.std.specs.Prelude.{◌≡◌, ℕ, ◌+◌, ◌<◌, ◌≤◌, ◌==◌, List, [], ◌∷◌, length, take, if◌then◌else◌}
use Rattle.loft_spelling.specs.Script.{IsSpelled}
use Rattle.loft_spelling.specs.Stops.{Stops}
use Rattle.loft_spelling.specs.Parts.{Grammar, Left, script}
use Rattle.loft_report_shape.specs.Sets.{set_of}
use Rattle.loft_report_shape.specs.Grammar.{start, after}
use Rattle.loft_report_shape.specs.Told.{Report, Told, nothing_told, note}
use Rattle.loft_report_shape.specs.declared.part.Part.{Part}

abbrev pub grammar : Grammar
grammar = record { Part = Part; Told = Told; set = λ p told. set_of p; after = after; note = note }

-- all parts are still to come
abbrev pub beginning : Left grammar
beginning = record { parts = start; told = nothing_told }

-- the text is a spelling of the report
abbrev pub Shape : List ℕ → Report → Type 0
Shape text r = (last : Left grammar) × IsSpelled (script grammar) beginning text last × (r ≡ last.told.report)

-- The text stops to be a report after its first k bytes. Where these are all of it, it is a proper prefix of a report.
abbrev pub StopsAt : List ℕ → ℕ → Type 0
StopsAt text k = Stops (script grammar) beginning text k

-- how many line feeds there are
unfoldable pub feeds : List ℕ → ℕ
feeds [] = 0
feeds (b ∷ bs) = if b == 10 then feeds bs + 1 else feeds bs

-- 1 GiB
abbrev pub longest : ℕ
longest = 1073741824

-- The text is a report or a prefix of one: it has no stop before its end.
abbrev pub GoesOn : List ℕ → Type 0
GoesOn text = (k : ℕ) → StopsAt text k → length text ≤ k

-- the text stops in line n, after its first k bytes, which aren't all of it
abbrev pub IsLine : List ℕ → ℕ → ℕ → Type 0
IsLine text n k = StopsAt text k × (k < length text) × (n ≡ feeds (take k text) + 1)
