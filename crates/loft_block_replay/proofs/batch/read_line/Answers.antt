use Rattle.std.proofs.Common.{Option, Ok, sym, ap, ◌∙◌}
use Rattle.loft_orders.specs.declared.order.Order.{Order}
use Rattle.loft_sense.specs.Fits.{Fits}
use Rattle.loft_standing.specs.Stops.{tree_of}
use Rattle.loft_order_lines.specs.Says.{Says}
use Rattle.loft_block_replay.proofs.BatchLemmas.{line_skipped, line_read, line_refused, only_found, none_found, some_of}
use Rattle.loft_block_replay.proofs.batch.read_line.Goals as goal

pub returns-then-not-is_order_line-clause-goes_on : goal.returns-then-not-is_order_line-clause-goes_on
returns-then-not-is_order_line-clause-goes_on c on all rest r =
    line_skipped (tree_of c.args.p.now) c.args.s c.args.line.now c.args.batch.now (sym c.is_order_line.ensures ∙ c.if-not-is_order_line.true) all rest r

pub returns-in_ok-push-in-Some-clause-goes_on : goal.returns-in_ok-push-in-Some-clause-goes_on
returns-in_ok-push-in-Some-clause-goes_on c on all rest r =
    let found = c.in_ok-order.was ∙ ap (λ (k : Option Order). Ok k) c.in-Some.is in
    let given = some_of (λ (o : Order). Says c.args.p.now.heads c.args.line.now o × Fits (tree_of c.args.p.now) c.args.s o) _ c.in-Some.order c.in-Some.is c.in_ok-order.ensures.given in
    line_read (tree_of c.args.p.now) c.args.s c.args.line.now c.args.batch.now c.push.new.self c.in-Some.order (sym c.is_order_line.ensures ∙ c.if-not-is_order_line.false) given.0 given.1
    (λ o says fits. only_found c.given_order.result c.in-Some.order o found (c.given_order.ensures.exact o says fits)) c.in_ok-push-in-Some.ensures.ok all rest r

pub returns-in-None-clause-stops : goal.returns-in-None-clause-stops
returns-in-None-clause-stops c off all rest r given are =
    line_refused (tree_of c.args.p.now) c.args.s c.args.line.now c.args.batch.now (sym c.is_order_line.ensures ∙ c.if-not-is_order_line.false)
    (λ o says fits. none_found c.given_order.result o (c.in_ok-order.was ∙ ap (λ (k : Option Order). Ok k) c.in-None.is) (c.given_order.ensures.exact o says fits)) all rest r given are
