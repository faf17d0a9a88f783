-- The state of the code, as the definitions see it.
use Rattle.std.specs.Prelude.{◌≡◌, ℕ, ◌+◌, ◌<◌, ◌≤◌, Bool, true, false, Option, Some, None, Result, Ok, Err, List, [], ◌∷◌, length, drop, ◌⊎◌}
use Rattle.loft_spelling.specs.Parts.{Left, script, takes, parts_begun}
use Rattle.loft_spelling.specs.Reading.{State, run}
use Rattle.loft_report_shape.specs.Sets.{set_of}
use Rattle.loft_report_shape.specs.Report.{grammar}
use Rattle.loft_report_shape.specs.declared.part.Part.{Part}
use Rattle.loft_report_shape.specs.declared.part.Part.TheVariants as part
use Rattle.loft_report_shape.specs.declared.part.NumberKind.TheVariants as number
use Rattle.loft_report_draft.specs.declared.draft.Draft.{Draft}
use Rattle.loft_report_draft.specs.Drafts.{told_of, report_of}
use Rattle.loft_report_reader.specs.declared.machine.Machine.{Machine}
use Rattle.loft_report_reader.specs.declared.machine.Spelled.{Spelled}
use Rattle.loft_report_reader.specs.declared.machine.Spelled.TheVariants.{Whole, Open, Stops}

abbrev pub machine_of : Machine → State (script grammar)
machine_of m = record { at = record { parts = m.parts; told = told_of m.draft }; word = m.word }

-- the same, where this part still comes before the others
abbrev pub machine_with : Part → Machine → State (script grammar)
machine_with p m = record { at = record { parts = p ∷ m.parts; told = told_of m.draft }; word = m.word }

abbrev pub Machine_state : Type 0
Machine_state = State (script grammar)

-- what is read of the bytes from a state on
abbrev pub read_from : Machine_state → List ℕ → Result Machine_state ℕ
read_from m bytes = run (script grammar) (takes grammar) bytes m

-- the same, where so many bytes come before
abbrev pub later_by : {A : Type 0} → ℕ → Result A ℕ → Result A ℕ
later_by n (Ok x) = Ok x
later_by n (Err k) = Err (n + k)

-- the bytes that were taken of a spelling are a prefix of one
abbrev pub IsBegun : Machine_state → Type 0
IsBegun m = (m.word ≡ []) ⊎ (parts_begun grammar m.at.parts m.at.told m.word ≡ true)

-- what is read of the bytes from the one state is read of the rest of them from the other
abbrev pub Spells : Spelled → List ℕ → Machine_state → Machine_state → Type 0
Spells (Whole n) bytes old new = read_from old bytes ≡ later_by n (read_from new (drop n bytes))
Spells Open bytes old new = read_from old bytes ≡ Ok new
Spells (Stops n) bytes old new = read_from old bytes ≡ Err n

abbrev pub Within : Spelled → List ℕ → Type 0
Within (Whole n) bytes = n ≤ length bytes
Within Open bytes = Unit {0}
Within (Stops n) bytes = n ≤ length bytes

-- after a whole spelling nothing was taken of the next one
abbrev pub Leaves : Spelled → Machine → Type 0
Leaves (Whole n) m = m.word ≡ []
Leaves s m = Unit {0}

-- a whole spelling has bytes
abbrev pub IsOn : Spelled → Type 0
IsOn (Whole n) = 0 < n
IsOn s = Unit {0}

-- the bytes were read from the one state to the other, or the text stops after so many of them
abbrev pub IsRead : Option ℕ → List ℕ → Machine_state → Machine_state → Type 0
IsRead None bytes old new = read_from old bytes ≡ Ok new
IsRead (Some n) bytes old new = read_from old bytes ≡ Err n

-- the parts that may come last
abbrev pub is_bottom : Part → Bool
is_bottom (part.Number number.History) = true
is_bottom (part.Number number.States) = true
is_bottom (part.Number number.Left) = true
is_bottom (part.Choices n) = true
is_bottom (part.Lines s) = true
is_bottom (part.States n) = true
is_bottom (part.Left n) = true
is_bottom part.Close = true
is_bottom p = false

unfoldable pub bottomed : List Part → Bool
bottomed [] = true
bottomed (p ∷ []) = is_bottom p
bottomed (p ∷ q ∷ ps) = bottomed (q ∷ ps)

-- The last part of a report is one that brings further ones, up to the line's end after `end`.
abbrev pub IsBottomed : List Part → Type 0
IsBottomed ps = bottomed ps ≡ true

-- what is told at the text's end
abbrev pub Closes : Option Draft → Option (Left grammar) → Type 0
Closes None o = o ≡ None
Closes (Some d) o = (last : Left grammar) × (o ≡ Some last) × (report_of d ≡ last.told.report)

abbrev pub may_end : List Part → List ℕ → Bool
may_end [] w = false
may_end (part.Close ∷ []) w = (set_of part.Close).whole w
may_end ps w = false
