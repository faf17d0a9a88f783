use Rattle.std.proofs.Common.{◌≡◌, Err, refl, drop}
use Rattle.std.proofs.lemmas.Result.{err_from_is_err_and}
use Rattle.loft_history.specs.History.{log}
use Rattle.loft_base.proofs.WritesLemmas.{goes_on, fails, ends_here, rest_is}
use Rattle.loft_log.proofs.ReportLemmas.{instants-taken, instants-passed, instants-spent}
use Rattle.loft_log.proofs.report.ReportWriter.write_instants.Goals.{in-Some+in-Some-split_first+in_ok-write_instant, in_default}
use Rattle.loft_log.proofs.report.ReportWriter.write_instants.Goals as goal

pub returns-in_default-split_first : goal.returns-in_default-split_first
returns-in_default-split_first g c =
    let batches = log c.args.s (drop c.loop-index.index c.args.world.now.history) in
    ends_here (rest_is (instants-spent c.args.self.now.heads.now batches c.loop-index.left.now c.in_default-split_first.ensures.cases) c.loop-index.invariant)

pub returns-in_err-write_instant : goal.returns-in_err-write_instant
returns-in_err-write_instant g c =
    let p = err_from_is_err_and c.from_residual.result c.from_residual.ensures.1 in
    let is : c.from_residual.result ≡ Err c.in_err-write_instant.field-0.0 = rw (p.1, p.2) refl in
    fails _ is c.in_err-write_instant.ensures (rest_is (instants-taken c.args.self.now.heads.now c.args.s c.args.world.now.history c.loop-index.index c.entry.result.now c.in-Some.batch.now c.in-Some-split_first.note.now c.loop-index.left.now c.in-Some-split_first.rest.now c.entry.ensures c.in-Some.ensures c.in-Some-split_first.ensures.cases.0) c.loop-index.invariant)

pub loop-index-preserved : goal.loop-index-preserved
loop-index-preserved g c = elim c.match-batch_of.branch [
  | in-Some+in-Some-split_first+in_ok-write_instant w ↦ rw (w.sink-is, w.left-is) (goes_on _ w.in_ok-write_instant.ensures (rest_is (instants-taken c.args.self.now.heads.now c.args.s c.args.world.now.history c.loop-index.index c.entry.result.now w.in-Some.batch.now w.in-Some-split_first.note.now c.loop-index.left.now w.in-Some-split_first.rest.now c.entry.ensures w.in-Some.ensures w.in-Some-split_first.ensures.cases.0) c.loop-index.invariant))
  | in_default w ↦ rw (w.sink-is, w.left-is) (rest_is (instants-passed c.args.self.now.heads.now c.args.s c.args.world.now.history c.loop-index.index c.entry.result.now c.loop-index.left.now c.entry.ensures w.in_default.ensures) c.loop-index.invariant)
]
