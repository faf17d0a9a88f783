use Rattle.std.proofs.Common.{◌≡◌, Err, refl, FitsSigned, w64, rules}
use Rattle.std.proofs.lemmas.Result.{err_from_is_err_and}
use Rattle.loft_base.proofs.WritesLemmas.{goes_on, fails, rest_is}
use Rattle.loft_value_text.specs.Buffer.{Holds}
use Rattle.loft_log.proofs.ReportLemmas.{value_text, value_line-read, shared-written, shared-skipped}
use Rattle.loft_log.proofs.report.ReportWriter.write_shared.Goals.{then-s-head+in-Some+in_ok-write_line, else-s-head}
use Rattle.loft_log.proofs.report.ReportWriter.write_shared.Goals as goal

pub returns-in_err-write_line : goal.returns-in_err-write_line
returns-in_err-write_line g c =
    let p = err_from_is_err_and c.from_residual.result c.from_residual.ensures.1 in
    let is : c.from_residual.result ≡ Err c.in_err-write_line.field-0.0 = rw (p.1, p.2) refl in
    let fits : FitsSigned w64 c.in-Some.value.now = search rules in
    let line : Holds c.make_value_line.new.line (value_text c.head-item.result.name c.in-Some.value.now) = λ whole. value_line-read c.in-Some.value.now fits (c.make_value_line.ensures whole) c.as_slice.ensures in
    fails _ is (c.in_err-write_line.ensures _ line) (rest_is (shared-written c.args.self.now.heads.now c.args.s c.loop-head.head-index c.head-item.result c.in-Some.value.now c.loop-head.left.now c.in-Some.rest.now (rw c.as_slice-head-items.ensures at c.loop-head-test.true) (rw c.as_slice-head-items.ensures at c.head-item.is) c.if-s-head.true c.in-Some.ensures.cases.0) c.loop-head.invariant)

pub loop-head-preserved : goal.loop-head-preserved
loop-head-preserved g c = elim c.if-s-head.branch [
  | then-s-head+in-Some+in_ok-write_line w ↦
      (let fits : FitsSigned w64 w.in-Some.value.now = search rules in
      let line : Holds w.make_value_line.new.line (value_text c.head-item.result.name w.in-Some.value.now) = λ whole. value_line-read w.in-Some.value.now fits (w.make_value_line.ensures whole) w.as_slice.ensures in
      rw (w.sink-is, w.left-is) (goes_on _ (w.in_ok-write_line.ensures _ line) (rest_is (shared-written c.args.self.now.heads.now c.args.s c.loop-head.head-index c.head-item.result w.in-Some.value.now c.loop-head.left.now w.in-Some.rest.now (rw c.as_slice-head-items.ensures at c.loop-head-test.true) (rw c.as_slice-head-items.ensures at c.head-item.is) w.if-s-head.true w.in-Some.ensures.cases.0) c.loop-head.invariant)))
  | else-s-head w ↦ rw (w.sink-is, w.left-is) (rest_is (shared-skipped c.args.self.now.heads.now c.args.s c.loop-head.head-index c.head-item.result c.loop-head.left.now (rw c.as_slice-head-items.ensures at c.loop-head-test.true) (rw c.as_slice-head-items.ensures at c.head-item.is) w.if-s-head.false) c.loop-head.invariant)
]
