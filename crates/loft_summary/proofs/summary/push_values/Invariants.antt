use Rattle.std.proofs.Common.{◌≡◌, ◌++◌, true, map, drop}
use Rattle.loft_orders.specs.Lines.{text_of}
use Rattle.loft_summary.specs.Lines.{value_line}
use Rattle.loft_summary.proofs.summary.push_values.Given as goal

-- the lines so far, and those of the values that are left
abbrev pub invariant-loop-value : goal.invariant-loop-value
invariant-loop-value l =
    l.text.is_whole ≡ true
    → (l.initial.text.is_whole ≡ true)
    × (l.initial.text.text.items ++ text_of (map (value_line l.number) l.values) ≡ l.text.text.items ++ text_of (map (value_line l.number) (drop l.value-index l.values)))
