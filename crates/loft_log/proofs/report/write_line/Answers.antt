use Rattle.std.proofs.Common.{◌≡◌, ◌∙◌, Err, refl, ap}
use Rattle.std.proofs.lemmas.Result.{err_from_is_err_and}
use Rattle.loft_base.specs.Writing.{are_lines, are_lines-end}
use Rattle.loft_base.specs.declared.writing.WriteError.TheVariants.{NoMemory}
use Rattle.loft_base.proofs.WritesLemmas.{begins, lacks_memory}
use Rattle.loft_log.proofs.LineLemmas.{with_feed}
use Rattle.loft_log.proofs.report.write_line.Goals as goal

pub write_lines-requires : goal.write_lines-requires
write_lines-requires g c =
    let appended = c.byte.ensures c.in_ok-whole.ensures.whole in
    ap are_lines (c.in_ok-whole.ensures.text ∙ appended.1) ∙ are_lines-end c.args.line.now.text.items

pub returns-in_err-whole : goal.returns-in_err-whole
returns-in_err-whole g c = λ text holds.
    let p = err_from_is_err_and c.from_residual.result c.from_residual.ensures.1 in
    let is : c.from_residual.result ≡ Err NoMemory = rw (p.1, p.2) refl in
    lacks_memory is (begins _ _ _ _ _)

pub returns : goal.returns
returns g c = λ text holds.
    let appended = c.byte.ensures c.in_ok-whole.ensures.whole in
    rw (with_feed c.in_ok-whole.ensures.text appended.1 (holds appended.0)) at c.write_lines.ensures
