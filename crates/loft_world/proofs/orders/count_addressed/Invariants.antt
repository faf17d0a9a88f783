use Rattle.std.proofs.Common.{◌≤◌}
use Rattle.loft_world.proofs.orders.count_addressed.Given as goal

-- no more than were seen
abbrev pub invariant-loop-sent : goal.invariant-loop-sent
invariant-loop-sent l = l.count ≤ l.sent-index
