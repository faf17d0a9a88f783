-- Where a thread goes on in code: by the number of an operation, and the counts there (docs/SEMANTICS.md, "Code").
use Rattle.std.specs.Prelude.{ℕ, zero, suc, ◌+◌, ◌==◌, ℤ, pos, negsuc, Bool, false, List, [], ◌∷◌, length, reverse, Option, Some, None, unwrap_or, slice_get, if◌then◌else◌}
use Rattle.std.specs.Option.{option_and_then}
use Rattle.loft_base.specs.declared.ids.ModuleId.{ModuleId}
use Rattle.loft_tree.specs.Resolved.{Pause}
use Rattle.loft_code.specs.Operations.{Operation, Do, Hold, Call, Branch, Enter, Count, Turn, Jump, End, Line, Automata, stop_of}
use Rattle.loft_sense.specs.Run.{Next, Finish, Stuck, Acts, Advances, Tests, Counts, Holds, Runs, Control}

-- a point of a module: the number of an operation, and the counts of the `repeat`s around it, from the inside out
pub record Point : Type 0 where
  pub op : ℕ
  pub counts : List ℤ

abbrev pub point : ℕ → List ℤ → Point
point op counts = record { op = op; counts = counts }

-- the operations of a module, none where there is no such module
abbrev pub lines_at : Automata → ModuleId → List Line
lines_at c m = unwrap_or (slice_get c.modules m.0) []

-- ---- jumps

-- where a `jump` leads
abbrev pub jump_of : Operation → Option ℕ
jump_of (Jump t) = Some t
jump_of operation = None

abbrev pub jump_at : List Line → ℕ → Option ℕ
jump_at lines p = option_and_then (λ l. jump_of l.operation) (slice_get lines p)

-- where a jump leads, goes on from there; without one it is here
abbrev pub follow : Option ℕ → ℕ → (ℕ → ℕ) → ℕ
follow None here on = here
follow (Some t) here on = on t

-- the operation that is reached from operation p over at most so many jumps
abbrev pub land : List Line → ℕ → ℕ → ℕ
land lines zero p = p
land lines (suc n) p = follow (jump_at lines p) p (land lines n)

-- The same over all jumps, which cost nothing. Those of valid code lead in no circle, so there are no more than operations.
abbrev pub landing : List Line → ℕ → ℕ
landing lines p = land lines (length lines) p

-- ---- what comes next

-- A `turn` goes on in its loop, with the last count lowered by one where it is above 0. Else it drops that count and leaves
-- the loop.
abbrev pub turned : (inside outside : ℕ) → List ℤ → Point
turned inside outside [] = point outside []
turned inside outside (pos zero ∷ ns) = point outside ns
turned inside outside (pos (suc n) ∷ ns) = point inside (pos n ∷ ns)
turned inside outside (negsuc n ∷ ns) = point outside ns

-- operation p, and where it goes on
abbrev pub next_operation : Operation → ℕ → List ℤ → Next Point
next_operation (Do action) p counts = Acts action (point (p + 1) counts)
next_operation (Hold k pause) p counts = Holds k pause (point (p + 1) counts)
next_operation (Call k m arguments) p counts = Runs k m arguments (point (p + 1) counts)
next_operation (Branch t test) p counts = Tests test (point (p + 1) counts) (point t counts)
next_operation Enter p counts = Advances (point (p + 1) counts)
next_operation (Count e) p counts = Counts e (λ n. point (p + 1) (n ∷ counts))
next_operation (Turn t) p counts = Advances (turned (p + 1) t counts)
next_operation (Jump t) p counts = Stuck
next_operation End p counts = Finish

-- there may be no such operation
abbrev pub next_line : Option Line → ℕ → List ℤ → Next Point
next_line None p counts = Stuck
next_line (Some l) p counts = next_operation l.operation p counts

abbrev pub next_at : List Line → ℕ → List ℤ → Next Point
next_at lines p counts = next_line (slice_get lines p) p counts

abbrev pub next_point : List Line → Point → Next Point
next_point lines p = next_at lines (landing lines p.op) p.counts

-- ---- stops

abbrev pub is_number : Option ℕ → ℕ → Bool
is_number None k = false
is_number (Some here) k = here == k

-- the number of the first operation that is stop k, where the first of these has number p
abbrev pub stop_from : ℕ → List Line → ℕ → Option ℕ
stop_from p [] k = None
stop_from p (l ∷ ls) k = if is_number (stop_of l.operation) k then Some p else stop_from (p + 1) ls k

-- after an operation; where there is none, after all
abbrev pub after_or_past : Option ℕ → List Line → ℕ
after_or_past None lines = length lines
after_or_past (Some p) lines = p + 1

-- what an operation waits for; nothing where it is no stop, or a `run`
abbrev pub pause_of_operation : Operation → Option Pause
pause_of_operation (Hold k pause) = Some pause
pause_of_operation operation = None

abbrev pub pause_at : List Line → Option ℕ → Option Pause
pause_at lines None = None
pause_at lines (Some p) = option_and_then (λ l. pause_of_operation l.operation) (slice_get lines p)

-- what a stop waits for; the begin, which counts as stop 0, waits for nothing
abbrev pub pause_in : List Line → ℕ → Option Pause
pause_in lines zero = None
pause_in lines (suc k) = pause_at lines (stop_from 0 lines (suc k))

-- ---- the control of code

abbrev pub code : Automata → Control Point
code c = record {
  heads = c.heads;
  start = λ m. point 0 [];
  resume = λ m k counts. point (after_or_past (stop_from 0 (lines_at c m) k) (lines_at c m)) (reverse counts);
  pause = λ m k. pause_in (lines_at c m) k;
  counts = λ p. reverse p.counts;
  next = λ m p. next_point (lines_at c m) p;
}
