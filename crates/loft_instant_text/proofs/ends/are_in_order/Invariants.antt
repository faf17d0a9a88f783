use Rattle.std.proofs.Common.{drop}
use Rattle.loft_instant_text.specs.Ends.{InOrderFrom}
use Rattle.loft_instant_text.proofs.ends.are_in_order.Given as goal

-- if those from here on stand in order, all do
abbrev pub invariant-loop-ended : goal.invariant-loop-ended
invariant-loop-ended l = InOrderFrom l.least (drop l.ended-index l.ends) → InOrderFrom 0 l.ends
