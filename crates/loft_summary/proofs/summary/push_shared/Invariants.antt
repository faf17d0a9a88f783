use Rattle.std.proofs.Common.{◌≡◌, ◌++◌, true, drop}
use Rattle.loft_summary.specs.Lines.{shared_text}
use Rattle.loft_summary.proofs.summary.push_shared.Given as goal

-- the lines so far, and those of the schedulers that are left
abbrev pub invariant-loop-number : goal.invariant-loop-number
invariant-loop-number l =
    l.text.is_whole ≡ true
    → (l.initial.text.is_whole ≡ true)
    × (l.initial.text.text.items ++ shared_text 0 l.finals ≡ l.text.text.items ++ shared_text l.number (drop l.number l.finals))
