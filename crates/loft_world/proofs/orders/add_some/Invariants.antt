use Rattle.std.proofs.Common.{◌≡◌, ◌++◌, ◌≤◌, drop, take, length}
use Rattle.loft_history.specs.History.{orders_to}
use Rattle.loft_sense.specs.Heads.{scheduler}
use Rattle.loft_world.proofs.orders.add_some.Given as goal

-- the orders so far and those of the rest are all of them, and those that were there come first
abbrev pub invariant-loop-sent : goal.invariant-loop-sent
invariant-loop-sent l =
    (l.orders ++ orders_to (scheduler l.at) (drop l.sent-index l.sents) ≡ l.fn.orders ++ orders_to (scheduler l.at) l.sents)
    × (length l.fn.orders ≤ length l.orders)
    × (take (length l.fn.orders) l.orders ≡ l.fn.orders)
