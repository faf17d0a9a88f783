use Rattle.std.proofs.Common.{◌∙◌}
use Rattle.loft_lock_pairs.proofs.FaultLemmas.{outer_last, own_last}
use Rattle.loft_lock_pairs.proofs.leaves.outermost.Goals as goal

pub returns-in-Some : goal.returns-in-Some
returns-in-Some c = outer_last c.args.own.now c.args.outer.now c.in-Some.lock.now c.in-Some.ensures.value

pub returns-in-None : goal.returns-in-None
returns-in-None c = own_last c.args.own.now c.args.outer.now c.copied.result c.in-None.ensures.value (c.copied.ensures ∙ c.last-in-None.ensures.value)
