use Rattle.std.proofs.Common.{◌≡◌, ◌++◌, drop, true, Err, refl, sym, subst}
use Rattle.std.proofs.lemmas.List.{take-append-drop}
use Rattle.std.proofs.lemmas.Result.{err_from_is_err_and}
use Rattle.loft_base.specs.Writing.{are_lines}
use Rattle.loft_base.proofs.LineLemmas.{rest_are_lines}
use Rattle.loft_base.proofs.WritesLemmas.{goes_on, fails, rest_is}
use Rattle.loft_base.proofs.writing.write_lines.Goals as goal

pub returns-in_err-write_line : goal.returns-in_err-write_line
returns-in_err-write_line g c =
    let p = err_from_is_err_and c.from_residual.result c.from_residual.ensures.1 in
    let is : c.from_residual.result ≡ Err c.in_err-write_line.field-0.0 = rw (p.1, p.2) refl in
    let parts = take-append-drop c.line_len.result c.lines.rest.now in
    let cut : c.lines.rest.now ≡ c.split_at.result.0.now ++ c.split_at.result.1.now = cc in
    fails _ is c.in_err-write_line.ensures (rest_is cut c.lines.invariant.0)

pub lines-preserved : goal.lines-preserved
lines-preserved g c =
    let parts = take-append-drop c.line_len.result c.lines.rest.now in
    let cut : c.lines.rest.now ≡ c.split_at.result.0.now ++ c.split_at.result.1.now = cc in
    let all : c.split_at.result.1.now ≡ drop c.line_len.result c.lines.rest.now = cc in
    (goes_on _ c.in_ok-write_line.ensures (rest_is cut c.lines.invariant.0), subst (λ l. are_lines l ≡ true) (sym all) (rest_are_lines c.line_len.result c.lines.rest.now c.lines.invariant.1))
