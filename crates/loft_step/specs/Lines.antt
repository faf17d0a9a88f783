-- Operations of a module in memory, and where they lead.
use Rattle.std.specs.Prelude.{◌≡◌, ℕ, zero, suc, ◌+◌, ◌≤◌, ◌<◌, Bool, false, List, Option, Some, None, slice_get}
use Rattle.std.specs.Option.{option_map}
use Rattle.std.specs.Borrow.{Bor}
use Rattle.loft_code.specs.declared.limits.TheConstants.{MAX_OPERATIONS}
use Rattle.loft_code.specs.declared.raw.CodeLine.{CodeLine}
use Rattle.loft_code.specs.Operations.{Line, is_end, stop_of}
use Rattle.loft_code.specs.View.{line_of}
use Rattle.loft_sense.specs.Code.{stop_from, after_or_past}

abbrev pub line_in : Option (Bor CodeLine) → Option Line
line_in line = option_map (λ l. line_of l.now) line

-- whether it is there, and an `end`
abbrev pub ends_at : Option Line → Bool
ends_at None = false
ends_at (Some l) = is_end l.operation

-- the number of the operation at which a frame goes on after this stop, 0 where it has stood at none
abbrev pub op_after : List Line → ℕ → ℕ
op_after lines zero = 0
op_after lines (suc k) = after_or_past (stop_from 0 lines (suc k)) lines

-- where operation p is stop k, it is the first one with that number, which is small; and stops before it have smaller numbers
pub record IsStop (lines : List Line) (p k : ℕ) : Type 0 where
  pub first : stop_from 0 lines k ≡ Some p
  pub some : 1 ≤ k
  pub small : k ≤ MAX_OPERATIONS
  pub order : (q j : ℕ) (l : Line) → q < p → slice_get lines q ≡ Some l → stop_of l.operation ≡ Some j → j < k

abbrev pub StopsAreNumbered : List Line → Type 0
StopsAreNumbered lines = (p k : ℕ) (l : Line) → slice_get lines p ≡ Some l → stop_of l.operation ≡ Some k → IsStop lines p k

-- no operation from one number to before another is a stop
abbrev pub HasNoStop : List Line → ℕ → ℕ → Type 0
HasNoStop lines from to = (p : ℕ) (l : Line) → from ≤ p → p < to → slice_get lines p ≡ Some l → stop_of l.operation ≡ None

-- operation p is stop k, and the last stop of those from one number to before another
pub record IsLastStop (lines : List Line) (from to p k : ℕ) : Type 0 where
  pub line : Line
  pub here : slice_get lines p ≡ Some line
  pub stop : stop_of line.operation ≡ Some k
  pub after : from ≤ p
  pub before : p < to
  pub last : HasNoStop lines (p + 1) to

-- where an operation is stop k, it is one of those from one number to before another
abbrev pub LiesIn : List Line → ℕ → ℕ → ℕ → Type 0
LiesIn lines k low high = (p : ℕ) (l : Line) → slice_get lines p ≡ Some l → stop_of l.operation ≡ Some k → (low ≤ p) × (p < high)
