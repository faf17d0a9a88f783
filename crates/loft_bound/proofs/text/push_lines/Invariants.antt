use Rattle.std.proofs.Common.{◌≡◌, ◌++◌, true, drop}
use Rattle.loft_orders.specs.Lines.{text_of}
use Rattle.loft_bound.specs.BoundText.{verdict_lines}
use Rattle.loft_bound.proofs.text.push_lines.Given as goal

-- the lines so far, and those of the verdicts that are left
abbrev pub invariant-loop-number : goal.invariant-loop-number
invariant-loop-number l =
    l.text.is_whole ≡ true
    → (l.initial.text.is_whole ≡ true)
    × (l.initial.text.text.items ++ text_of (verdict_lines l.heads 0 l.verdicts) ≡ l.text.text.items ++ text_of (verdict_lines l.heads l.number (drop l.number l.verdicts)))
