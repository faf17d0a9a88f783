-- The batch of an instant of a report, by its lines (docs/REPORT.md, "Replay").
use Rattle.std.specs.Prelude.{ℕ, nat_eq, ◌==◌, Bool, ◌||◌, List, [], ◌∷◌, filter, codes}
use Rattle.std.specs.List.{slice_split, starts_with}
use Rattle.loft_base.specs.declared.ids.SchedId.{SchedId}
use Rattle.loft_orders.specs.declared.order.Order.{Order}
use Rattle.loft_sense.specs.Machine.{Prog, heads}
use Rattle.loft_sense.specs.Fits.{Fits}
use Rattle.loft_order_lines.specs.Says.{Says}

-- what stands between the line feeds of a text
abbrev pub lines_of : List ℕ → List (List ℕ)
lines_of text = slice_split (λ b. b == 10) text

-- the line begins with the mark of an order
abbrev pub is_order_line : List ℕ → Bool
is_order_line line = starts_with nat_eq line (codes "in ") || starts_with nat_eq line (codes "void ") || starts_with nat_eq line (codes "full ")

abbrev pub order_lines : List ℕ → List (List ℕ)
order_lines text = filter is_order_line (lines_of text)

-- the lines say these orders, one each, and the scheduler may be given them
abbrev pub AreGiven : Prog → SchedId → List (List ℕ) → List Order → Type 0
AreGiven x s [] [] = Unit {0}
AreGiven x s [] (o ∷ os) = ⊥
AreGiven x s (line ∷ lines) [] = ⊥
AreGiven x s (line ∷ lines) (o ∷ os) = Says (heads x) line o × Fits x s o × AreGiven x s lines os
