use Rattle.std.proofs.Common.{◌≡◌, ◌+◌, ◌<◌, [], ◌∷◌, ◌++◌, length, map, refl, ap, ◌∙◌, arith}
use Rattle.std.proofs.lemmas.List.{map-append}
use Rattle.loft_tree.specs.View.{order_of}
use Rattle.loft_tree.specs.declared.limits.TheConstants.{MAX_ORDERS}
use Rattle.loft_listing_line.specs.Rows.{Order, line_text}
use Rattle.loft_listing_draft.specs.declared.sofar.OpenClient.{OpenClient}
use Rattle.loft_listing_draft.specs.Lined.{order_at}
use Rattle.loft_listing_draft.proofs.TakenLines.{take_more, with_client, order_goes}
use Rattle.loft_listing_draft.proofs.sofar.OpenClient.take_order.Goals as goal

pub returns-then-len-lt-MAX_ORDERS-clause-taken :
    goal.returns-then-len-lt-MAX_ORDERS-clause-taken
returns-then-len-lt-MAX_ORDERS-clause-taken c w =
    let o = c.args.self in
    let before = o.orders.items in
    let x = order_at c.args.at (order_of c.args.order.now) in
    let n : OpenClient = record { name = o.name; orders = c.push_to.new.all } in
    let put : map order_of c.push_to.new.all.items ≡ map order_of before ++ x ∷ [] =
    ap (map order_of) (c.push_to.ensures.more w) ∙ map-append order_of before (c.order_at-order.result ∷ [])
    ∙ ap (λ y. map order_of before ++ y ∷ []) (c.order_at-order.ensures.copy (c.push_to.ensures.before w)) in
    let few : length before < MAX_ORDERS = omega arith in
    take_more (with_client c.args.done o) (with_client c.args.done n) c.args.at (Order x) c.more.result c.more.ensures
    (order_goes c.args.done o n c.args.at (c.args.at + length (line_text (Order x))) x few refl put)
