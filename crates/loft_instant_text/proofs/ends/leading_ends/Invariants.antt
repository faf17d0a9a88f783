use Rattle.std.proofs.Common.{◌≡◌, ◌+◌, drop}
use Rattle.loft_instant_text.specs.Ends.{leading}
use Rattle.loft_instant_text.proofs.ends.leading_ends.Given as goal

-- those so far all have the index
abbrev pub invariant-loop-ended : goal.invariant-loop-ended
invariant-loop-ended l = (l.count ≡ l.ended-index) × (leading l.index l.ends ≡ l.count + leading l.index (drop l.ended-index l.ends))
