-- The lines of the summary of a run (docs/GENERATED.md, "The summary").
use Rattle.std.specs.Prelude.{ℕ, ◌+◌, ℤ, Bool, true, false, List, [], ◌∷◌, ◌++◌, codes, map, length, filter, flat_map}
use Rattle.std.specs.Fmt.{decimal, signed_decimal}
use Rattle.loft_orders.specs.declared.order.End.{End}
use Rattle.loft_orders.specs.declared.order.End.TheVariants as end
use Rattle.loft_orders.specs.declared.note.Act.{Act}
use Rattle.loft_orders.specs.declared.note.Act.TheVariants as act
use Rattle.loft_orders.specs.declared.note.InstantNote.{InstantNote}
use Rattle.loft_orders.specs.declared.note.FinalState.{FinalState}
use Rattle.loft_orders.specs.Lines.{text_of}
use Rattle.loft_sense.specs.Tally.{capped}
use Rattle.loft_gen.specs.Generated.{rounds_of, threads_of}

-- at the end of its module
abbrev pub at_end : End → Bool
at_end end.Done = true
at_end end.Stopped = false
at_end end.Full = false
at_end (end.Div at) = false
at_end (end.Deep at) = false
at_end (end.Over at) = false
at_end (end.Flood at) = false

-- a thread ended at the end of its module
abbrev pub is_done : Act → Bool
is_done (act.Print thread line) = false
is_done (act.Gen thread event value) = false
is_done (act.Out thread sent) = false
is_done (act.End thread reason) = at_end reason

-- all that was done in the instants of one scheduler, and of all
abbrev pub acts_in : List InstantNote → List Act
acts_in notes = flat_map (λ (n : InstantNote). n.acts) notes

abbrev pub all_acts : List (List InstantNote) → List Act
all_acts notes = flat_map acts_in notes

-- how many threads ended so
abbrev pub done_among : List Act → ℕ
done_among acts = length (filter is_done acts)

-- the value of the variable of the scheduler with this number
abbrev pub value_line : ℕ → ℤ → List ℕ
value_line number value = codes "shared x" ++ (decimal number ++ (codes " " ++ signed_decimal value))

-- the variables of the schedulers from this number on
abbrev pub shared_text : ℕ → List FinalState → List ℕ
shared_text number [] = []
shared_text number (f ∷ fs) = text_of (map (value_line number) f.shared) ++ shared_text (number + 1) fs

-- a line that is a word and a number
abbrev pub count_line : List ℕ → ℕ → List ℕ
count_line word number = word ++ (decimal number ++ 10 ∷ [])

-- what the source is, the last values, and how many threads ended; that count stops at the largest of 64 bits
abbrev pub summary_text : ℕ → List (List InstantNote) → List FinalState → List ℕ
summary_text k notes finals =
    count_line (codes "gen ") k
    ++ (codes "schedulers 4\n"
    ++ (count_line (codes "threads ") (threads_of k)
    ++ (count_line (codes "rounds ") (rounds_of k)
    ++ (shared_text 0 finals ++ count_line (codes "ended ") (capped (done_among (all_acts notes)))))))
