use Rattle.loft_waits.proofs.FlagLemmas.{none_between, first_between}
use Rattle.loft_waits.proofs.flags.search.Goals as goal

pub returns-in-Some : goal.returns-in-Some
returns-in-Some c = first_between c.args.bytes.now c.part.result.now c.args.from c.args.end c.in-Some.count c.part.ensures c.in-Some.ensures.0 c.in-Some.ensures.1

pub returns-in-None : goal.returns-in-None
returns-in-None c = none_between c.args.bytes.now c.part.result.now c.args.from c.args.end c.part.ensures c.in-None.ensures
