use Rattle.std.proofs.Common.{◌≡◌, Some}
use Rattle.loft_orders.specs.declared.order.Order.{Order}
use Rattle.loft_orders.specs.declared.order.Order.TheVariants as order
use Rattle.loft_order_lines.specs.Texts.{OrderHasText}
use Rattle.loft_order_lines.specs.Words.{rest_of_order}
use Rattle.loft_order_lines.proofs.WordLemmas.{ended_only}
use Rattle.loft_order_lines.proofs.PartLemmas.{ended_parts, same_ended, never_none, one_found}
use Rattle.loft_order_lines.proofs.order.ended_of.Goals as goal

pub returns-in_err-thread-clause-read : goal.returns-in_err-thread-clause-read
returns-in_err-thread-clause-read c o has is same = ended_only (λ (q : Order). OrderHasText c.args.heads.now q → c.args.bytes.now ≡ rest_of_order c.args.heads.now q → c.from_residual.result ≡ Some q) (λ t e has same.
    let p = ended_parts c.args.heads.now c.requires t e has.0 c.args.bytes.now c.cut_at.result.0.now c.cut_at.result.1.now c.cut_at.ensures same in
    absurd (never_none c.id_of.result t (c.id_of.ensures.read t has.0 p.0) c.in_err-thread.was)) o is has same

pub returns-in_err-end-clause-read : goal.returns-in_err-end-clause-read
returns-in_err-end-clause-read c o has is same = ended_only (λ (q : Order). OrderHasText c.args.heads.now q → c.args.bytes.now ≡ rest_of_order c.args.heads.now q → c.from_residual-in_err-end.result ≡ Some q) (λ t e has same.
    let p = ended_parts c.args.heads.now c.requires t e has.0 c.args.bytes.now c.cut_at.result.0.now c.cut_at.result.1.now c.cut_at.ensures same in
    absurd (never_none c.end_of.result e (c.end_of.ensures.read e has.1 p.1) c.in_err-end.was)) o is has same

pub returns-clause-read : goal.returns-clause-read
returns-clause-read c o has is same = ended_only (λ (q : Order). OrderHasText c.args.heads.now q → c.args.bytes.now ≡ rest_of_order c.args.heads.now q → Some (order.Ended c.in_ok-thread.thread c.in_ok-end.end) ≡ Some q) (λ t e has same.
    let p = ended_parts c.args.heads.now c.requires t e has.0 c.args.bytes.now c.cut_at.result.0.now c.cut_at.result.1.now c.cut_at.ensures same in
    same_ended c.in_ok-thread.thread t c.in_ok-end.end e
    (one_found c.id_of.result c.in_ok-thread.thread t (c.id_of.ensures.read t has.0 p.0) c.in_ok-thread.was)
    (one_found c.end_of.result c.in_ok-end.end e (c.end_of.ensures.read e has.1 p.1) c.in_ok-end.was)) o is has same
