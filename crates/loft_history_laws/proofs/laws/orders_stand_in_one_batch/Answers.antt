use Rattle.loft_history_laws.proofs.BatchLemmas.{in_batches, in_first}
use Rattle.loft_history_laws.proofs.laws.orders_stand_in_one_batch.Goals as goal

pub returns-clause-batches : goal.returns-clause-batches
returns-clause-batches c = in_batches

pub returns-clause-first : goal.returns-clause-first
returns-clause-first c = in_first
