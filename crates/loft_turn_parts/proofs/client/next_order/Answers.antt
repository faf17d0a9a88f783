use Rattle.std.proofs.Common.{◌≡◌, ◌∙◌, ◌+◌, List, sym, ap, subst, Some, None, slice_get}
use Rattle.std.specs.Prelude.{drop}
use Rattle.std.specs.Option.{option_map}
use Rattle.loft_tree.specs.declared.heads.ClientOrder.{ClientOrder}
use Rattle.loft_tree.specs.Fits.{Each}
use Rattle.loft_orders.specs.declared.order.Sent.{Sent}
use Rattle.loft_history.specs.Clients.{orders_from, orders_of}
use Rattle.loft_turn_parts.specs.Clients.{HasEvent}
use Rattle.loft_turn_parts.proofs.ClientLemmas.{from_there, none_there, first_sent}
use Rattle.loft_turn_parts.proofs.client.next_order.Goals as goal

pub returns-in_default-clause-order : goal.returns-in_default-clause-order
returns-in_default-clause-order c =
    let all : List ClientOrder = orders_of c.args.heads.now c.args.client in
    let is : slice_get all c.args.index ≡ None = sym c.order_of.ensures.order ∙ ap (option_map (λ q. q.now)) c.in_default.is in
    sym (ap (λ (l : List ClientOrder). slice_get (orders_from c.args.heads.now c.args.client c.args.creates l) 0) (none_there all c.args.index is))

pub sent_of-requires : goal.sent_of-requires
sent_of-requires c =
    let all : List ClientOrder = orders_of c.args.heads.now c.args.client in
    let is : slice_get all c.args.index ≡ Some c.in-Some.order.now = sym c.order_of.ensures.order ∙ ap (option_map (λ q. q.now)) c.in-Some.is in
    record { event = (subst (Each (HasEvent c.args.heads.now)) (from_there all c.args.index c.in-Some.order.now is) c.requires.events).0 }

pub returns-clause-order : goal.returns-clause-order
returns-clause-order c =
    let h = c.args.heads.now in
    let all : List ClientOrder = orders_of h c.args.client in
    let order : ClientOrder = c.in-Some.order.now in
    let is : slice_get all c.args.index ≡ Some order = sym c.order_of.ensures.order ∙ ap (option_map (λ q. q.now)) c.in-Some.is in
    sym (ap (λ (l : List ClientOrder). slice_get (orders_from h c.args.client c.args.creates l) 0) (from_there all c.args.index order is)
    ∙ ap (λ (l : List Sent). slice_get l 0) (first_sent h c.args.client c.args.creates order (drop (c.args.index + 1) all) c.in_ok-sent.sent c.in_ok-sent.ensures))
