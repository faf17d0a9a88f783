use Rattle.std.proofs.Common.{ℕ, ◌<◌, map, arith, sym, subst, ◌∙◌}
use Rattle.std.proofs.lemmas.List.{length-map}
use Rattle.std.proofs.lemmas.Result.{err_from_is_err_and}
use Rattle.loft_code.specs.View.{line_of}
use Rattle.loft_code.proofs.Checked.{few_stops, line_at, so_far_next, first_here, all_asked, some_from_test}
use Rattle.loft_code.proofs.valid.check_lines.Goals as goal

pub returns-in_err-check_line : goal.returns-in_err-check_line
returns-in_err-check_line c =
    let p = err_from_is_err_and c.from_residual.result c.from_residual.ensures.1 in
    rw (p.1, p.2)
    (first_here c.args.heads.now c.args.module c.args.signature.now (map line_of c.args.lines.now) c.loop-number.number c.loop-number.before
    (line_of c.index-lines-number.result) c.in_err-check_line.field-0.0
    (line_at c.args.lines.now c.loop-number.number c.index-lines-number.result c.loop-number-test.true c.index-lines-number.is)
    c.in_err-check_line.ensures c.loop-number.invariant)

pub loop-number-preserved : goal.loop-number-preserved
loop-number-preserved c =
    so_far_next c.args.heads.now c.args.module c.args.signature.now (map line_of c.args.lines.now) c.loop-number.number c.loop-number.before
    c.stops_of-before.result (line_of c.index-lines-number.result)
    (line_at c.args.lines.now c.loop-number.number c.index-lines-number.result c.loop-number-test.true c.index-lines-number.is)
    c.stops_of-before.ensures c.in_ok-check_line.ensures c.loop-number.invariant

pub returns : goal.returns
returns c =
    all_asked c.args.heads.now c.args.module c.args.signature.now (map line_of c.args.lines.now) c.loop-number.number c.loop-number.before
    (subst (λ (n : ℕ). 0 < n) (sym (length-map c.args.lines.now line_of)) (some_from_test _ (sym c.is_empty.ensures ∙ c.if-is_empty.false)))
    (omega (arith, length-map c.args.lines.now line_of, c.loop-number-test.false)) c.loop-number.invariant

pub check_line-requires-clause-op : goal.check_line-requires-clause-op
check_line-requires-clause-op c = omega (arith, length-map c.args.lines.now line_of, c.loop-number-test.true, c.requires)

pub check_line-requires-clause-before : goal.check_line-requires-clause-before
check_line-requires-clause-before c = c.loop-number.invariant.stops

pub check_line-requires-clause-few : goal.check_line-requires-clause-few
check_line-requires-clause-few c =
    omega (arith, length-map c.args.lines.now line_of, c.loop-number-test.true, c.requires, c.loop-number.invariant.stops, few_stops (map line_of c.args.lines.now) c.loop-number.number)
