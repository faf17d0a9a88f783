use Rattle.std.proofs.Common.{◌≡◌, map, Err, refl, ap}
use Rattle.std.proofs.lemmas.Result.{err_from_is_err_and}
use Rattle.loft_log.proofs.LineLemmas.{drop-at}
use Rattle.loft_base.proofs.WritesLemmas.{goes_on, fails, rest_is}
use Rattle.loft_history.specs.Report.{standing_line}
use Rattle.loft_orders.specs.Lines.{text_of}
use Rattle.loft_log.proofs.report.ReportWriter.write_standings.Goals as goal

pub returns-in_err-write_line : goal.returns-in_err-write_line
returns-in_err-write_line g c =
    let p = err_from_is_err_and c.from_residual.result c.from_residual.ensures.1 in
    let is : c.from_residual.result ≡ Err c.in_err-write_line.field-0.0 = rw (p.1, p.2) refl in
    fails _ is (c.in_err-write_line.ensures _ c.make_standing_line.ensures) (rest_is (ap (λ items. text_of (map (standing_line c.args.self.now.heads.now) items)) (drop-at c.args.linked.now c.loop-standing.standing-index c.standing-item.result c.loop-standing-test.true c.standing-item.is)) c.loop-standing.invariant)

pub loop-standing-preserved : goal.loop-standing-preserved
loop-standing-preserved g c = goes_on _ (c.in_ok-write_line.ensures _ c.make_standing_line.ensures) (rest_is (ap (λ items. text_of (map (standing_line c.args.self.now.heads.now) items)) (drop-at c.args.linked.now c.loop-standing.standing-index c.standing-item.result c.loop-standing-test.true c.standing-item.is)) c.loop-standing.invariant)
