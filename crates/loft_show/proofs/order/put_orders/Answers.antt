use Rattle.std.proofs.Common.{[], ◌∷◌, map}
use Rattle.loft_tree.specs.View.{order_of}
use Rattle.loft_show.specs.Canon.{lines_text, order_line, order_lines}
use Rattle.loft_show.proofs.Texts.{lines_text-append, one_more}
use Rattle.loft_show.proofs.order.put_orders.Goals as goal

pub loop-order-preserved : goal.loop-order-preserved
loop-order-preserved c = record {
  whole = λ w. c.loop-order.invariant.whole (c.put_order.ensures.before w);
  text = λ w. rw (c.put_order.ensures.text w)
      (one_more (λ xs. lines_text (order_lines (map order_of xs))) (λ x. lines_text (order_line (order_of x) ∷ []))
      c.loop-order.out.text.items c.args.orders.now c.loop-order.order-index c.order-item.result _
      (λ x xs. lines_text-append (order_line (order_of x) ∷ []) (order_lines (map order_of xs)))
      c.loop-order-test.true c.order-item.is (c.loop-order.invariant.text (c.put_order.ensures.before w)));
}
