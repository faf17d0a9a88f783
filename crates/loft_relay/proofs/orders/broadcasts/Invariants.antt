use Rattle.std.specs.List.{All}
use Rattle.loft_relay.specs.Gives.{IsOrder}
use Rattle.loft_relay.proofs.orders.broadcasts.Given as goal

abbrev pub invariant-loop-value : goal.invariant-loop-value
invariant-loop-value l = All (IsOrder l.code) l.sents
