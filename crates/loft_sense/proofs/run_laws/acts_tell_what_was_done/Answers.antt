use Rattle.loft_sense.proofs.InstantLemmas.{instant_board, instant_known}
use Rattle.loft_sense.proofs.AroundLemmas.{run_follows, pass_follows, passes_follow}
use Rattle.loft_sense.proofs.run_laws.acts_tell_what_was_done.Goals as goal

pub returns-clause-run : goal.returns-clause-run
returns-clause-run c = λ x t around n. (run_follows x t around n).tells

pub returns-clause-pass : goal.returns-clause-pass
returns-clause-pass c = λ x rs around. (pass_follows x rs around).tells

pub returns-clause-passes : goal.returns-clause-passes
returns-clause-passes c = λ x rs around. (passes_follow x rs around).tells

pub returns-clause-board : goal.returns-clause-board
returns-clause-board c = instant_board

pub returns-clause-known : goal.returns-clause-known
returns-clause-known c = instant_known
