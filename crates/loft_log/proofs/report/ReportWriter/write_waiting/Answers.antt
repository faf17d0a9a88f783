use Rattle.std.proofs.Common.{◌≡◌, Err, refl, ap, ◌∙◌, arith}
use Rattle.std.proofs.lemmas.Result.{err_from_is_err_and}
use Rattle.loft_base.specs.declared.writing.WriteError.TheVariants.{NoMemory}
use Rattle.loft_history.specs.History.{waiting}
use Rattle.loft_base.proofs.WritesLemmas.{goes_on, fails, lacks_memory, rest_is}
use Rattle.loft_log.proofs.ReportLemmas.{left-from}
use Rattle.loft_log.proofs.report.ReportWriter.write_waiting.Goals as goal

pub returns-in_err-s : goal.returns-in_err-s
returns-in_err-s g c =
    let p = err_from_is_err_and c.from_residual.result c.from_residual.ensures.1 in
    let is : c.from_residual.result ≡ Err NoMemory = rw (p.1, p.2) refl in
    lacks_memory is c.loop-index.invariant

pub returns-in_err-write_left_orders : goal.returns-in_err-write_left_orders
returns-in_err-write_left_orders g c =
    let p = err_from_is_err_and c.from_residual-in_err-write_left_orders.result c.from_residual-in_err-write_left_orders.ensures.1 in
    let is : c.from_residual-in_err-write_left_orders.result ≡ Err c.in_err-write_left_orders.field-0.0 = rw (p.1, p.2) refl in
    fails _ is (rw ((c.as_slice.ensures ∙ (c.left.ensures ∙ (ap (λ h. waiting h c.in_ok-s.s c.args.world.now.history) c.requires.heads ∙ ap (λ s. waiting c.args.self.now.heads.now s c.args.world.now.history) c.in_ok-s.ensures))), c.in_ok-s.ensures) at c.in_err-write_left_orders.ensures) (rest_is (left-from c.args.self.now.heads.now c.args.world.now.history c.loop-index.index (omega (arith, c.len-index-end.ensures))) c.loop-index.invariant)

pub loop-index-preserved : goal.loop-index-preserved
loop-index-preserved g c = goes_on _ (rw ((c.as_slice.ensures ∙ (c.left.ensures ∙ (ap (λ h. waiting h c.in_ok-s.s c.args.world.now.history) c.requires.heads ∙ ap (λ s. waiting c.args.self.now.heads.now s c.args.world.now.history) c.in_ok-s.ensures))), c.in_ok-s.ensures) at c.in_ok-write_left_orders.ensures) (rest_is (left-from c.args.self.now.heads.now c.args.world.now.history c.loop-index.index (omega (arith, c.len-index-end.ensures))) c.loop-index.invariant)
