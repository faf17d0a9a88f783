use Rattle.std.proofs.Common.{refl}
use Rattle.loft_report_reader.proofs.AheadLemmas.{then, nothing, from_bytes}
use Rattle.loft_report_reader.proofs.ahead.lines_ahead.Goals as goal

pub loop-ahead-init : goal.loop-ahead-init
loop-ahead-init c = record { goes = λ ps. nothing _ c.args.bytes.now; same = λ _. refl }

pub loop-ahead-preserved-then-ahead : goal.loop-ahead-preserved-then-ahead
loop-ahead-preserved-then-ahead c = record {
  goes = λ ps. then (c.loop-ahead.invariant.goes ps) (from_bytes (c.loop-ahead.invariant.same c.loop-ahead-test.true) (c.line-after.ensures.goes c.if-ahead.true ps));
  same = λ _. refl;
}
