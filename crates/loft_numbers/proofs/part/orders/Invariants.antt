use Rattle.std.proofs.Common.{true, ◌≡◌, ◌++◌, drop, map}
use Rattle.loft_tree.specs.View.{order_of}
use Rattle.loft_numbers.specs.Numbers.{client_orders}
use Rattle.loft_numbers.proofs.part.orders.Given as goal

-- those that are left come after
abbrev pub invariant-loop-one : goal.invariant-loop-one
invariant-loop-one l = record { whole : l.room.is_whole ≡ true → l.initial.room.is_whole ≡ true; rest : l.room.is_whole ≡ true → l.all ++ client_orders l.table l.scope (map order_of (drop l.one-index l.ordered)) ≡ client_orders l.table l.scope (map order_of l.ordered) }
