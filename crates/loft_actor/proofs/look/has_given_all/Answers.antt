use Rattle.std.proofs.Common.{arith}
use Rattle.loft_actor.proofs.LookLemmas.{counted_all}
use Rattle.loft_actor.proofs.look.has_given_all.Goals as goal

pub returns : goal.returns
returns c = λ yes.
    counted_all c.args.b.now c.args.c.now c.args.outsider.now c.heads.result.now c.index.result.now c.len.result c.requires.ready c.heads.ensures c.index.ensures c.len.ensures (grind (arith, yes))
