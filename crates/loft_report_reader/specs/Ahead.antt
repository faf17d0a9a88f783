-- Parts that are read ahead.
use Rattle.std.specs.Prelude.{◌≡◌, ℕ, ◌<◌, Bool, true, false, List, [], ◌++◌, length, take, get_or}
use Rattle.loft_spelling.specs.Sets.{Set}
use Rattle.loft_report_shape.specs.Grammar.{after}
use Rattle.loft_report_shape.specs.Told.{Told, keeps, note}
use Rattle.loft_report_shape.specs.declared.part.NumberKind.{NumberKind}
use Rattle.loft_report_shape.specs.declared.part.NumberKind.TheVariants as number
use Rattle.loft_report_shape.specs.declared.part.Part.{Part}
use Rattle.loft_report_shape.specs.declared.part.Stage.{Stage}
use Rattle.loft_report_shape.specs.declared.part.Stage.TheVariants as stage
use Rattle.loft_report_sets.specs.Taken.{Taken}
use Rattle.loft_report_reader.specs.Machine.{Machine_state, read_from, later_by}

-- The first n bytes are a whole spelling, and the set takes just these of the text, which goes on.
pub record There (s : Set) (bytes : List ℕ) (n : ℕ) : Type 0 where
  pub taken : Taken s bytes n
  pub whole : s.whole (take n bytes) ≡ true
  pub more : n < length bytes

abbrev pub IsThere : Set → List ℕ → ℕ → Type 0
IsThere s bytes n = 0 < n → There s bytes n

-- the first bytes of the text are these
abbrev pub BeginsWith : List ℕ → List ℕ → Type 0
BeginsWith w bytes = take (length w) bytes ≡ w

-- lines of threads that stand may come
abbrev pub may_stand : Stage → Bool
may_stand stage.Fresh = false
may_stand stage.Changed = false
may_stand s = true

-- lines of what threads printed may come
abbrev pub may_print : Stage → Bool
may_print stage.Batch = true
may_print stage.Ordered = true
may_print stage.Acts = true
may_print s = false

-- How many digits are a number of the kind in each case, unless zeros lead.
abbrev pub few_digits : NumberKind → ℕ
few_digits number.History = 18
few_digits number.States = 18
few_digits number.Left = 18
few_digits number.Count = 18
few_digits number.Any = 18
few_digits number.Stop = 9
few_digits kind = 0

-- there are bytes, and the first one is no zero, unless it is the only one
abbrev pub IsPlainNumber : List ℕ → Type 0
IsPlainNumber w = (0 < length w) × (get_or w 0 0 ≡ 48 → length w ≡ 1)

-- between two spellings, where these parts are still to come
abbrev pub before_parts : List Part → Told → Machine_state
before_parts ps told = record { at = record { parts = ps; told = told }; word = [] }

-- From the parts ps on the bytes u are read to where the parts qs are still to come, and the bytes v. What was read is kept, and tells nothing else.
pub record Goes (ps : List Part) (u : List ℕ) (qs : List Part) (v : List ℕ) : Type 0 where
  pub word : List ℕ
  pub split : u ≡ word ++ v
  pub read : (told : Told) → read_from (before_parts ps told) u ≡ later_by (length word) (read_from (before_parts qs (keeps word told)) v)

-- a spelling of the part is kept, and tells nothing else
abbrev pub IsKept : Part → List ℕ → Type 0
IsKept p w = (told : Told) → note p w told ≡ keeps w told

-- so is each spelling of it, and no part comes after it
abbrev pub IsPlain : Part → Type 0
IsPlain p = (w : List ℕ) → (after p w ≡ []) × IsKept p w
