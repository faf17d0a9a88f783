use Rattle.std.proofs.Common.{◌≡◌, Some}
use Rattle.loft_orders.specs.declared.order.Order.{Order}
use Rattle.loft_orders.specs.declared.order.Order.TheVariants as order
use Rattle.loft_order_lines.specs.Texts.{OrderHasText}
use Rattle.loft_order_lines.specs.Words.{rest_of_order}
use Rattle.loft_order_lines.proofs.WordLemmas.{create_only}
use Rattle.loft_order_lines.proofs.PartLemmas.{create_parts, same_create, never_none, one_found}
use Rattle.loft_order_lines.proofs.order.create_of.Goals as goal

pub returns-in_err-thread-clause-read : goal.returns-in_err-thread-clause-read
returns-in_err-thread-clause-read c w o has is same = create_only (λ (q : Order). OrderHasText c.args.heads.now q → c.args.bytes.now ≡ rest_of_order c.args.heads.now q → c.from_residual.result ≡ Some q) (λ t m args has same.
    let p = create_parts c.args.heads.now c.requires t m args has c.args.bytes.now c.cut_at.result.0.now c.cut_at-2.result.0.now c.cut_at-3.result.0.now c.cut_at.result.1.now c.cut_at-2.result.1.now c.cut_at-3.result.1.now c.cut_at.ensures c.cut_at-2.ensures c.cut_at-3.ensures same in
    absurd (never_none c.id_of.result t (c.id_of.ensures.read t has.id p.id_is) c.in_err-thread.was)) o is has same

pub returns-in_err-module-clause-read : goal.returns-in_err-module-clause-read
returns-in_err-module-clause-read c w o has is same = create_only (λ (q : Order). OrderHasText c.args.heads.now q → c.args.bytes.now ≡ rest_of_order c.args.heads.now q → c.from_residual-in_err-module.result ≡ Some q) (λ t m args has same.
    let p = create_parts c.args.heads.now c.requires t m args has c.args.bytes.now c.cut_at.result.0.now c.cut_at-2.result.0.now c.cut_at-3.result.0.now c.cut_at.result.1.now c.cut_at-2.result.1.now c.cut_at-3.result.1.now c.cut_at.ensures c.cut_at-2.ensures c.cut_at-3.ensures same in
    absurd (never_none c.module_named.result m (c.module_named.ensures.read m has.declared p.module_is) c.in_err-module.was)) o is has same

pub returns-in_err-args-clause-read : goal.returns-in_err-args-clause-read
returns-in_err-args-clause-read c w o has is same = create_only (λ (q : Order). OrderHasText c.args.heads.now q → c.args.bytes.now ≡ rest_of_order c.args.heads.now q → c.from_residual-in_err-args.result ≡ Some q) (λ t m args has same.
    let p = create_parts c.args.heads.now c.requires t m args has c.args.bytes.now c.cut_at.result.0.now c.cut_at-2.result.0.now c.cut_at-3.result.0.now c.cut_at.result.1.now c.cut_at-2.result.1.now c.cut_at-3.result.1.now c.cut_at.ensures c.cut_at-2.ensures c.cut_at-3.ensures same in
    absurd (never_none c.arguments_of.result args (c.arguments_of.ensures.read w args has.each p.args_are) c.in_err-args.was)) o is has same

pub returns-clause-read : goal.returns-clause-read
returns-clause-read c w o has is same = create_only (λ (q : Order). OrderHasText c.args.heads.now q → c.args.bytes.now ≡ rest_of_order c.args.heads.now q → Some (order.Create c.in_ok-thread.thread c.in_ok-module.module c.in_ok-args.args) ≡ Some q) (λ t m args has same.
    let p = create_parts c.args.heads.now c.requires t m args has c.args.bytes.now c.cut_at.result.0.now c.cut_at-2.result.0.now c.cut_at-3.result.0.now c.cut_at.result.1.now c.cut_at-2.result.1.now c.cut_at-3.result.1.now c.cut_at.ensures c.cut_at-2.ensures c.cut_at-3.ensures same in
    same_create c.in_ok-thread.thread t c.in_ok-module.module m c.in_ok-args.args args
    (one_found c.id_of.result c.in_ok-thread.thread t (c.id_of.ensures.read t has.id p.id_is) c.in_ok-thread.was)
    (one_found c.module_named.result c.in_ok-module.module m (c.module_named.ensures.read m has.declared p.module_is) c.in_ok-module.was)
    (one_found c.arguments_of.result c.in_ok-args.args args (c.arguments_of.ensures.read w args has.each p.args_are) c.in_ok-args.was)) o is has same
