use Rattle.std.proofs.lemmas.Bool.{false≢true}
use Rattle.loft_top.proofs.TellLemmas.{told_line, untold_line}
use Rattle.loft_top.proofs.telling.tell.Goals as goal

pub returns-in-Ok-clause-tells : goal.returns-in-Ok-clause-tells
returns-in-Ok-clause-tells g c = told_line c.args.status c.requires.sink c.requires.memory c.in-Ok.ensures.ok c.in-Ok.ensures.never_falls c.in-Ok.ensures.by_lines c.requires.line

pub returns-in-Err-clause-tells : goal.returns-in-Err-clause-tells
returns-in-Err-clause-tells g c = untold_line c.args.status c.requires.sink c.in-Err.ensures.failed c.in-Err.ensures.cause c.in-Err.ensures.never_falls (λ fits. false≢true (c.in-Err.ensures.sure fits)) c.in-Err.ensures.same_lines
