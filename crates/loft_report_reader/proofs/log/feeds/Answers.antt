use Rattle.std.proofs.Common.{ap, arith}
use Rattle.loft_report_shape.specs.Report.{feeds}
use Rattle.loft_report_reader.proofs.Pieces.{feeds_least}
use Rattle.loft_report_reader.proofs.TextThere.{first_feed, no_feeds}
use Rattle.loft_report_reader.proofs.log.feeds.Goals as goal

pub overflow_add-n : goal.overflow_add-n
overflow_add-n c =
    let next = first_feed c.loop-at.rest.now c.in-Some.at c.in-Some.ensures.0.high (λ k h. c.in-Some.ensures.0.before k (omega arith) h) c.in-Some.ensures.1 in
    omega (arith, c.loop-at.invariant, next, feeds_least c.args.bytes.now)

pub loop-at-preserved : goal.loop-at-preserved
loop-at-preserved c =
    let next = first_feed c.loop-at.rest.now c.in-Some.at c.in-Some.ensures.0.high (λ k h. c.in-Some.ensures.0.before k (omega arith) h) c.in-Some.ensures.1 in
    omega (arith, c.loop-at.invariant, next, ap feeds c.past-rest.ensures)

pub returns : goal.returns
returns c = omega (arith, c.loop-at.invariant, no_feeds c.loop-at.rest.now (λ k h. c.in_default.ensures k (omega arith) h))
