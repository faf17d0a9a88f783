use Rattle.std.proofs.Common.{refl, sym, arith}
use Rattle.loft_tree.specs.View.{order_of}
use Rattle.loft_grammar.specs.Items.{order, create_order, control_order, broadcast_order}
use Rattle.loft_grammar.specs.Limits.{limits}
use Rattle.loft_grammar.specs.View.{orders_of}
use Rattle.loft_productions.proofs.Taking.{more_listed, fewer_left, all_listed, appended}
use Rattle.loft_productions.proofs.order.orders.Goals as goal

pub all-preserved : goal.all-preserved
unfolding order create_order control_order broadcast_order
all-preserved c =
    more_listed limits 0 order (orders_of c.all.orders) c.args.at.now c.all.at _ (c.all-test.ensures.going refl) c.all.invariant (omega arith)
    (order_of c.order-one.result) c.order-one.new.at c.push.new.self (orders_of c.push.new.all) (sym c.if-next_order.ensures) c.order-one.ensures
    (λ h. let p = c.push.ensures.item h in (p.0, appended order_of c.all.orders.items c.push.new.all.items c.order-one.result p.1)) c.push.ensures.fault c.push.ensures.cursor

pub all-smaller : goal.all-smaller
unfolding order create_order control_order broadcast_order
all-smaller c =
    fewer_left limits 0 order c.all.at c.order-one.new.at c.push.new.self (order_of c.order-one.result) (c.all-test.ensures.going refl) (omega arith) c.order-one.ensures
    (λ h. (c.push.ensures.item h).0) c.push.ensures.cursor

pub returns-else-next_order : goal.returns-else-next_order
unfolding order create_order control_order broadcast_order
returns-else-next_order c = all_listed limits 0 order (orders_of c.all.orders) c.args.at.now c.all.at _ c.all.invariant (omega arith) (λ _. sym c.if-next_order.ensures)
