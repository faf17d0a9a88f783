use Rattle.std.proofs.Common.{true, ◌≡◌, ◌++◌, drop, map}
use Rattle.loft_tree.specs.View.{order_of}
use Rattle.loft_show.specs.Canon.{lines_text, order_lines}
use Rattle.loft_show.proofs.order.put_orders.Given as goal

-- the orders that are left come after
abbrev pub invariant-loop-order : goal.invariant-loop-order
invariant-loop-order l = record { whole : l.out.is_whole ≡ true → l.initial.out.is_whole ≡ true; text : l.out.is_whole ≡ true → l.out.text.items ++ lines_text (order_lines (map order_of (drop l.order-index l.orders))) ≡ l.initial.out.text.items ++ lines_text (order_lines (map order_of l.orders)) }
