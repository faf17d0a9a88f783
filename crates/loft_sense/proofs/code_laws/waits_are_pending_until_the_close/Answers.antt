use Rattle.loft_sense.proofs.RunnerLemmas.{held_pending, pending_within, instant_pending}
use Rattle.loft_sense.proofs.code_laws.waits_are_pending_until_the_close.Goals as goal

pub returns-clause-held : goal.returns-clause-held
returns-clause-held c = held_pending

pub returns-clause-ran : goal.returns-clause-ran
returns-clause-ran c = instant_pending

pub returns-clause-kept : goal.returns-clause-kept
returns-clause-kept c = pending_within
