use Rattle.std.proofs.Common.{◌≡◌, Err, refl, arith}
use Rattle.std.proofs.lemmas.Result.{err_from_is_err_and}
use Rattle.loft_base.proofs.WritesLemmas.{goes_on, fails, ends_here, rest_is}
use Rattle.loft_log.proofs.ReportLemmas.{choices-from, choices-end}
use Rattle.loft_log.proofs.report.ReportWriter.write_choices.Goals as goal

pub returns-in_err-write_choice : goal.returns-in_err-write_choice
returns-in_err-write_choice g c =
    let p = err_from_is_err_and c.from_residual.result c.from_residual.ensures.1 in
    let is : c.from_residual.result ≡ Err c.in_err-write_choice.field-0.0 = rw (p.1, p.2) refl in
    fails _ is c.in_err-write_choice.ensures (rest_is (choices-from c.args.self.now.heads.now c.args.world.now.history c.loop-index.index c.entry.result.now c.entry.ensures) c.loop-index.invariant)

pub loop-index-preserved : goal.loop-index-preserved
loop-index-preserved g c = goes_on _ c.in_ok-write_choice.ensures (rest_is (choices-from c.args.self.now.heads.now c.args.world.now.history c.loop-index.index c.entry.result.now c.entry.ensures) c.loop-index.invariant)

pub returns : goal.returns
returns g c = ends_here (rest_is (choices-end c.args.self.now.heads.now c.args.world.now.history c.loop-index.index (omega (arith, c.length-index-end.ensures.length))) c.loop-index.invariant)
