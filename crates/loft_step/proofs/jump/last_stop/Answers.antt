use Rattle.std.proofs.Common.{◌≡◌, ◌-◌, ◌+◌, sym, ap, ◌∙◌, arith}
use Rattle.std.specs.Prelude.{map}
use Rattle.loft_code.specs.declared.raw.CodeLine.{CodeLine}
use Rattle.loft_code.specs.Operations.{stop_of}
use Rattle.loft_code.specs.View.{line_of}
use Rattle.loft_step.proofs.Lines.{item_at}
use Rattle.loft_step.proofs.Stops.{no_stop_more, none_there}
use Rattle.loft_step.proofs.jump.last_stop.Goals as goal

pub returns-in-Some-clause-last : goal.returns-in-Some-clause-last
returns-in-Some-clause-last c =
    let some = c.back-test.true in
    let within = c.back.invariant.within in
    record {
      line = line_of c.index-lines-op.result;
      here = item_at c.args.lines.now (c.back.op - 1) c.index-lines-op.result (omega (arith, some, within, c.requires)) c.index-lines-op.is;
      stop = ap (λ (l : CodeLine). stop_of (line_of l).operation) c.index-lines-op.is ∙ (sym c.stop_of.ensures ∙ c.in-Some.is);
      after = omega (arith, some);
      before = omega (arith, some, within);
      last = λ p l after before at. c.back.invariant.none p l (omega (arith, some, after)) before at;
    }

pub back-preserved : goal.back-preserved
back-preserved c =
    let some = c.back-test.true in
    let within = c.back.invariant.within in
    let here = item_at c.args.lines.now (c.back.op - 1) c.index-lines-op.result (omega (arith, some, within, c.requires)) c.index-lines-op.is in
    let next : c.back.op ≡ c.back.op - 1 + 1 = omega (arith, some) in
    record {
      within = omega (arith, within);
      none = no_stop_more (map line_of c.args.lines.now) (c.back.op - 1) c.back.op c.args.to next c.back.invariant.none
          (none_there (map line_of c.args.lines.now) (c.back.op - 1) (line_of c.index-lines-op.result) here
          (ap (λ (l : CodeLine). stop_of (line_of l).operation) c.index-lines-op.is ∙ (sym c.stop_of.ensures ∙ c.in_default.is)));
    }
