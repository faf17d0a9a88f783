use Rattle.loft_sense.proofs.InstantLemmas.{applied_events, instant_shared, instant_number, instant_scheduler}
use Rattle.loft_sense.proofs.AroundLemmas.{passes_follow}
use Rattle.loft_sense.proofs.run_laws.instants_keep_what_is_declared.Goals as goal

pub returns-clause-scheduler : goal.returns-clause-scheduler
returns-clause-scheduler c = instant_scheduler

pub returns-clause-number : goal.returns-clause-number
returns-clause-number c = instant_number

pub returns-clause-shared : goal.returns-clause-shared
returns-clause-shared c = instant_shared

pub returns-clause-batch : goal.returns-clause-batch
returns-clause-batch c = applied_events

pub returns-clause-passes : goal.returns-clause-passes
returns-clause-passes c = λ x rs around. (passes_follow x rs around).events
