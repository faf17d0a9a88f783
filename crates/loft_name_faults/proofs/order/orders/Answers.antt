use Rattle.std.proofs.Common.{refl, map}
use Rattle.loft_tree.specs.View.{order_of}
use Rattle.loft_scopes.specs.Faults.{order_faults, orders_faults}
use Rattle.loft_name_faults.proofs.Uses.{one_more}
use Rattle.loft_name_faults.proofs.order.orders.Goals as goal

pub loop-one-preserved : goal.loop-one-preserved
loop-one-preserved c =
    one_more (λ xs. orders_faults c.args.table.now c.args.scope (map order_of xs)) (λ x. order_faults c.args.table.now c.args.scope (order_of x))
    c.loop-one.least c.order.new.least _ c.args.ordered.now c.loop-one.one-index c.one-item.result (λ x xs. refl) c.loop-one-test.true c.one-item.is c.loop-one.invariant c.order.ensures
