use Rattle.std.proofs.lemmas.List.{take_rest}
use Rattle.std.proofs.lemmas.Result.{err_from_is_err_and}
use Rattle.loft_base.proofs.StreamLemmas.{Taken-more, Taken-stops}
use Rattle.loft_base.proofs.streams.write_whole.Goals as goal

pub returns-in_err-count-clause-failed : goal.returns-in_err-count-clause-failed
returns-in_err-count-clause-failed g c =
    let failed = err_from_is_err_and c.from_residual.result c.from_residual.ensures.1 in
    rw failed.1 (Taken-stops _ _ _ _ _ c.rest.invariant c.in_err-count.ensures.bytes)

pub rest-preserved : goal.rest-preserved
rest-preserved g c =
    Taken-more c.in_ok-count.count (take_rest c.rest.rest.now c.in_ok-count.count) c.rest.invariant c.in_ok-count.ensures.bytes
