use Rattle.loft_host.proofs.EndLemmas.{caller_has}
use Rattle.loft_host.proofs.end.end_desk.Goals as goal

pub returns-clause-own : goal.returns-clause-own
returns-clause-own g c = caller_has c.args.b.now c.args.c.now c.args.desk.pass c.requires.at_work
