use Rattle.std.proofs.Common.{◌+◌, drop}
use Rattle.std.proofs.lemmas.List.{drop_all}
use Rattle.loft_tree.specs.View.{statements_of}
use Rattle.loft_numbers.specs.Numbers as numbers
use Rattle.loft_numbers.specs.Numbers.{body_stops}
use Rattle.loft_numbers.proofs.Stops.{all_done, one_more, stops_left}
use Rattle.loft_numbers.proofs.statement.+statement.Goals as goal

pub body-loop-s-preserved : goal.body-loop-s-preserved
body-loop-s-preserved t c = record {
  whole = λ now. c.loop-s.invariant.whole (c.statement-numbered.ensures.before (c.push_to.ensures.before now));
  stops =
      stops_left c.args.statements.now (c.args.stops.now + body_stops (statements_of c.args.statements.now)) c.loop-s.stops c.statement-numbered.new.stops c.loop-s.s-index c.s-item.result
      c.loop-s-test.true c.s-item.is c.loop-s.invariant.stops c.statement-numbered.ensures.counted;
  rest = λ now.
      let whole = c.push_to.ensures.before now in
      one_more c.args.table.now c.args.scope c.args.statements.now (numbers.body_of c.args.table.now c.args.scope (statements_of c.args.statements.now) c.args.stops.now) c.loop-s.stops c.statement-numbered.new.stops
      c.loop-s.s-index c.loop-s.all.items c.push_to.new.all.items c.s-item.result c.statement-numbered.result c.loop-s-test.true c.s-item.is
      (c.loop-s.invariant.rest (c.statement-numbered.ensures.before whole)) (c.statement-numbered.ensures.statement whole) c.statement-numbered.ensures.counted (c.push_to.ensures.more now);
}

pub body-returns-clause-body : goal.body-returns-clause-body
body-returns-clause-body t c now =
    all_done c.args.table.now c.args.scope (numbers.body_of c.args.table.now c.args.scope (statements_of c.args.statements.now) c.args.stops.now) c.loop-s.stops c.loop-s.all.items (drop c.loop-s.s-index c.args.statements.now)
    (drop_all c.loop-s.s-index c.args.statements.now c.loop-s-test.false) (c.loop-s.invariant.rest now)
