use Rattle.std.proofs.Common.{arith}
use Rattle.loft_body.proofs.Caps.{loop_counted}
use Rattle.loft_body.proofs.walk.loop_counted.Goals as goal

pub turning-requires-clause-few : goal.turning-requires-clause-few
turning-requires-clause-few c = omega arith

pub turning-requires-clause-small : goal.turning-requires-clause-small
turning-requires-clause-small c = c.requires

pub one_more-requires : goal.one_more-requires
one_more-requires c = c.turning.ensures.small

pub returns-clause-steps : goal.returns-clause-steps
returns-clause-steps c = loop_counted c.args.body c.turning.result c.one_more.result c.turning.ensures.steps c.one_more.ensures.steps
