use Rattle.std.proofs.Common.{◌≡◌, ◌++◌, drop, map}
use Rattle.loft_tree.specs.View.{order_of}
use Rattle.loft_numbers.specs.Numbers.{creates_in}
use Rattle.loft_numbers.proofs.link.put_creates.Given as goal

-- those that are left come after
abbrev pub invariant-loop-order : goal.invariant-loop-order
invariant-loop-order l = record {
  number : l.number ≡ l.order-index;
  rest : l.all.items ++ creates_in l.client l.number (map order_of (drop l.order-index l.orders)) ≡ l.initial.all.items ++ creates_in l.client 0 (map order_of l.orders);
}
