use Rattle.std.proofs.Common.{◌≡◌, Err, refl, arith}
use Rattle.std.proofs.lemmas.Result.{err_from_is_err_and}
use Rattle.loft_base.specs.declared.writing.WriteError.TheVariants.{NoMemory}
use Rattle.loft_base.proofs.WritesLemmas.{goes_on, fails, lacks_memory, ends_here, rest_is}
use Rattle.loft_log.proofs.ReportLemmas.{blocks-written, blocks-end}
use Rattle.loft_log.proofs.report.ReportWriter.write_blocks.Goals as goal

pub returns-in_err-s : goal.returns-in_err-s
returns-in_err-s g c =
    let p = err_from_is_err_and c.from_residual.result c.from_residual.ensures.1 in
    let is : c.from_residual.result ≡ Err NoMemory = rw (p.1, p.2) refl in
    lacks_memory is c.loop-index.invariant

pub returns-in_err-write_block : goal.returns-in_err-write_block
returns-in_err-write_block g c =
    let p = err_from_is_err_and c.from_residual-in_err-write_block.result c.from_residual-in_err-write_block.ensures.1 in
    let is : c.from_residual-in_err-write_block.result ≡ Err c.in_err-write_block.field-0.0 = rw (p.1, p.2) refl in
    fails _ is (c.in_err-write_block.ensures) (rest_is (blocks-written c.args.self.now.heads.now c.args.world.now.history c.loop-index.index c.args.notes.now c.args.finals.now c.in_ok-s.s c.as_slice.result.now c.index-notes-index.result c.index-finals-index.result (omega (arith, c.len-schedulers.ensures, c.min.ensures, c.min-index-end.ensures)) (omega (arith, c.len-schedulers.ensures, c.min.ensures, c.min-index-end.ensures)) (omega (arith, c.len-schedulers.ensures, c.min.ensures, c.min-index-end.ensures)) c.in_ok-s.ensures c.as_slice.ensures c.index-notes-index.is c.index-finals-index.is) c.loop-index.invariant)

pub loop-index-preserved : goal.loop-index-preserved
loop-index-preserved g c = goes_on _ (c.in_ok-write_block.ensures) (rest_is (blocks-written c.args.self.now.heads.now c.args.world.now.history c.loop-index.index c.args.notes.now c.args.finals.now c.in_ok-s.s c.as_slice.result.now c.index-notes-index.result c.index-finals-index.result (omega (arith, c.len-schedulers.ensures, c.min.ensures, c.min-index-end.ensures)) (omega (arith, c.len-schedulers.ensures, c.min.ensures, c.min-index-end.ensures)) (omega (arith, c.len-schedulers.ensures, c.min.ensures, c.min-index-end.ensures)) c.in_ok-s.ensures c.as_slice.ensures c.index-notes-index.is c.index-finals-index.is) c.loop-index.invariant)

pub returns : goal.returns
returns g c = ends_here (rest_is (blocks-end c.args.self.now.heads.now c.args.world.now.history c.loop-index.index c.args.notes.now c.args.finals.now (omega (arith, c.len-schedulers.ensures, c.min.ensures, c.min-index-end.ensures))) c.loop-index.invariant)
