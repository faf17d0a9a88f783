use Rattle.std.proofs.Common.{arith}
use Rattle.std.proofs.lemmas.Grind.{common_steps}
use Rattle.loft_arguments.proofs.Texts.{no_sign}
use Rattle.loft_arguments.proofs.argument.next_argument.Goals as goal

pub returns-in-None-clause-none : goal.returns-in-None-clause-none
returns-in-None-clause-none c = grind (arith, common_steps, no_sign c.args.word.now)

pub returns-in-None-clause-some : goal.returns-in-None-clause-some
returns-in-None-clause-some c = grind (arith, common_steps, no_sign c.args.word.now)

pub returns-in-None-2-clause-none : goal.returns-in-None-2-clause-none
returns-in-None-2-clause-none c = grind (arith, common_steps, no_sign c.args.word.now)

pub returns-in-None-2-clause-some : goal.returns-in-None-2-clause-some
returns-in-None-2-clause-some c = grind (arith, common_steps, no_sign c.args.word.now)
