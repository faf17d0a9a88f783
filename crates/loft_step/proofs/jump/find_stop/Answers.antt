use Rattle.std.proofs.Common.{length, sym, ap, ◌∙◌, arith}
use Rattle.std.specs.Prelude.{map}
use Rattle.loft_code.specs.declared.raw.CodeLine.{CodeLine}
use Rattle.loft_code.specs.Operations.{stop_of}
use Rattle.loft_code.specs.View.{line_of}
use Rattle.loft_sense.specs.Code.{is_number, stop_from}
use Rattle.loft_step.proofs.Lines.{item_at}
use Rattle.loft_step.proofs.Stops.{lies_on, same_number}
use Rattle.loft_step.proofs.jump.find_stop.Goals as goal

pub returns-then-is_stop-clause-first : goal.returns-then-is_stop-clause-first
returns-then-is_stop-clause-first c =
    let here = item_at c.args.lines.now c.first.op c.index-lines-op.result (omega (arith, c.first-test.true)) c.index-lines-op.is in
    let is = ap (λ (l : CodeLine). is_number (stop_of (line_of l).operation) c.from-k.result) c.index-lines-op.is ∙ (sym c.is_stop.ensures ∙ c.if-is_stop.true) in
    let found = c.requires c.first.op c.from-k.result (line_of c.index-lines-op.result) here (same_number (stop_of (line_of c.index-lines-op.result).operation) c.from-k.result is) in
    sym (ap (stop_from 0 (map line_of c.args.lines.now)) (sym c.from-k.ensures) ∙ found.first)

pub first-preserved : goal.first-preserved
first-preserved c =
    let here = item_at c.args.lines.now c.first.op c.index-lines-op.result (omega (arith, c.first-test.true)) c.index-lines-op.is in
    lies_on (map line_of c.args.lines.now) c.from-k.result c.first.op (length c.args.lines.now) (line_of c.index-lines-op.result) here
    (ap (λ (l : CodeLine). is_number (stop_of (line_of l).operation) c.from-k.result) c.index-lines-op.is ∙ (sym c.is_stop.ensures ∙ c.if-is_stop.false)) c.first.invariant
