use Rattle.std.proofs.Common.{◌≡◌, ℤ, true, false, Some, None, w64, to_z, of_z, sym, ap, ◌∙◌}
use Rattle.loft_orders.specs.declared.order.Order.{Order}
use Rattle.loft_orders.specs.declared.order.Order.TheVariants as order
use Rattle.loft_order_lines.specs.Texts.{OrderHasText}
use Rattle.loft_order_lines.specs.Words.{rest_of_order}
use Rattle.loft_order_lines.proofs.Numbers.{bits_same}
use Rattle.loft_order_lines.proofs.WordLemmas.{broadcast_only}
use Rattle.loft_order_lines.proofs.PartLemmas.{broadcast_event, broadcast_plain, broadcast_value, same_broadcast, never_none, one_found, empty_is, some_is}
use Rattle.loft_order_lines.proofs.order.broadcast_of.Goals as goal

pub returns-in_err-event-clause-read : goal.returns-in_err-event-clause-read
returns-in_err-event-clause-read c o has is same = broadcast_only (λ (q : Order). OrderHasText c.args.heads.now q → c.args.bytes.now ≡ rest_of_order c.args.heads.now q → c.from_residual.result ≡ Some q) (λ e v has same.
    let p = broadcast_event c.args.heads.now c.requires e v has.0 c.args.bytes.now c.cut_at.result.0.now c.cut_at.result.1.now c.cut_at.ensures same in
    absurd (never_none c.event_named.result e (c.event_named.ensures.read e has.0 p) c.in_err-event.was)) o is has same

pub returns-then-is_empty-clause-read : goal.returns-then-is_empty-clause-read
returns-then-is_empty-clause-read c o has is same = broadcast_only (λ (q : Order). OrderHasText c.args.heads.now q → c.args.bytes.now ≡ rest_of_order c.args.heads.now q → Some (order.Broadcast c.in_ok-event.event None) ≡ Some q) (λ e v has same.
    let p = broadcast_event c.args.heads.now c.requires e v has.0 c.args.bytes.now c.cut_at.result.0.now c.cut_at.result.1.now c.cut_at.ensures same in
    same_broadcast c.in_ok-event.event e None v
    (one_found c.event_named.result c.in_ok-event.event e (c.event_named.ensures.read e has.0 p) c.in_ok-event.was)
    (broadcast_plain c.args.heads.now c.requires e v has.0 has.1 c.args.bytes.now c.cut_at.result.0.now c.cut_at.result.1.now c.cut_at.ensures same (empty_is c.cut_at.result.1.now c.is_empty.result c.is_empty.ensures c.if-is_empty.true))) o is has same

pub returns-in_err-value-clause-read : goal.returns-in_err-value-clause-read
returns-in_err-value-clause-read c o has is same = broadcast_only (λ (q : Order). OrderHasText c.args.heads.now q → c.args.bytes.now ≡ rest_of_order c.args.heads.now q → c.from_residual-in_err-value.result ≡ Some q) (λ e v has same.
    let n = broadcast_value c.args.heads.now c.requires e v has.0 has.1 c.args.bytes.now c.cut_at.result.0.now c.cut_at.result.1.now c.cut_at.ensures same (some_is c.cut_at.result.1.now c.is_empty.result c.is_empty.ensures c.if-is_empty.false) in
    absurd (never_none c.integer_of.result n.number (c.integer_of.ensures.read n.number n.has n.text) c.in_err-value.was)) o is has same

pub returns-clause-read : goal.returns-clause-read
returns-clause-read c o has is same = broadcast_only (λ (q : Order). OrderHasText c.args.heads.now q → c.args.bytes.now ≡ rest_of_order c.args.heads.now q → Some (order.Broadcast c.in_ok-event.event (Some (to_z w64 (of_z w64 c.in_ok-value.value)))) ≡ Some q) (λ e v has same.
    let p = broadcast_event c.args.heads.now c.requires e v has.0 c.args.bytes.now c.cut_at.result.0.now c.cut_at.result.1.now c.cut_at.ensures same in
    let n = broadcast_value c.args.heads.now c.requires e v has.0 has.1 c.args.bytes.now c.cut_at.result.0.now c.cut_at.result.1.now c.cut_at.ensures same (some_is c.cut_at.result.1.now c.is_empty.result c.is_empty.ensures c.if-is_empty.false) in
    same_broadcast c.in_ok-event.event e (Some (to_z w64 (of_z w64 c.in_ok-value.value))) v
    (one_found c.event_named.result c.in_ok-event.event e (c.event_named.ensures.read e has.0 p) c.in_ok-event.was)
    (ap (λ (z : ℤ). Some z) (bits_same c.in_ok-value.value n.number n.has (one_found c.integer_of.result c.in_ok-value.value n.number (c.integer_of.ensures.read n.number n.has n.text) c.in_ok-value.was)) ∙ sym n.is)) o is has same
