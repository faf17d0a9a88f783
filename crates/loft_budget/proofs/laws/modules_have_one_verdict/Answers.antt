use Rattle.loft_budget.proofs.Verdicts.{one_verdict, bound_both}
use Rattle.loft_budget.proofs.laws.modules_have_one_verdict.Goals as goal

pub returns-clause-one : goal.returns-clause-one
returns-clause-one c = one_verdict

pub returns-clause-bound : goal.returns-clause-bound
returns-clause-bound c = bound_both
