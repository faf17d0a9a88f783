use Rattle.loft_history.proofs.OwnLemmas.{scheduler_own, worker_own, client_own, given}
use Rattle.loft_history.proofs.laws.own_entries_tell.Goals as goal

pub returns-clause-scheduler : goal.returns-clause-scheduler
returns-clause-scheduler c = scheduler_own

pub returns-clause-worker : goal.returns-clause-worker
returns-clause-worker c = worker_own

pub returns-clause-client : goal.returns-clause-client
returns-clause-client c = client_own

pub returns-clause-given : goal.returns-clause-given
returns-clause-given c = given
