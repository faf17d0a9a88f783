use Rattle.std.proofs.Common.{◌≡◌, ◌-◌, ◌≤◌, length}
use Rattle.loft_lex.specs.Tokens.{tokens}
use Rattle.loft_lex.proofs.Steps.{so_far}
use Rattle.loft_lex.proofs.lex.Given as goal

abbrev pub invariant-loop-at : goal.invariant-loop-at
invariant-loop-at l = (l.at ≤ length l.text) × (so_far l.items.items l.at l.text ≡ tokens l.text)

abbrev pub decreases-loop-at : goal.decreases-loop-at
decreases-loop-at l = length l.text - l.at
