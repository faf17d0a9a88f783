use Rattle.loft_sense.proofs.AroundLemmas.{run_follows, pass_follows, passes_follow}
use Rattle.loft_sense.proofs.TellLemmas.{told_board}
use Rattle.loft_sense.proofs.EventLemmas.{order_stays}
use Rattle.loft_sense.proofs.run_laws.events_stay_present_in_an_instant.Goals as goal

pub returns-clause-order : goal.returns-clause-order
returns-clause-order c = order_stays

pub returns-clause-run : goal.returns-clause-run
returns-clause-run c = λ x t around n. told_board around _ (run_follows x t around n).tells

pub returns-clause-pass : goal.returns-clause-pass
returns-clause-pass c = λ x rs around. told_board around _ (pass_follows x rs around).tells

pub returns-clause-passes : goal.returns-clause-passes
returns-clause-passes c = λ x rs around. told_board around _ (passes_follow x rs around).tells
