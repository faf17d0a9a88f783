use Rattle.loft_sense.proofs.RunnerLemmas.{runs_once, pass_in_order}
use Rattle.loft_sense.proofs.run_laws.passes_go_in_order.Goals as goal

pub returns-clause-once : goal.returns-clause-once
returns-clause-once c = runs_once

pub returns-clause-order : goal.returns-clause-order
returns-clause-order c = pass_in_order
