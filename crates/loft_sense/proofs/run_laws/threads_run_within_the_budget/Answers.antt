use Rattle.loft_sense.proofs.RunnerLemmas.{run_within, runs_within, instant_runs, instant_whole, last_run, over_only_without_steps}
use Rattle.loft_sense.proofs.run_laws.threads_run_within_the_budget.Goals as goal

pub returns-clause-kept : goal.returns-clause-kept
returns-clause-kept c = λ x budget passes rs around. runs_within x budget passes rs around

pub returns-clause-runs : goal.returns-clause-runs
returns-clause-runs c = instant_runs

pub returns-clause-whole : goal.returns-clause-whole
returns-clause-whole c = instant_whole

pub returns-clause-last : goal.returns-clause-last
returns-clause-last c = last_run

pub returns-clause-over : goal.returns-clause-over
returns-clause-over c = over_only_without_steps

pub returns-clause-run : goal.returns-clause-run
returns-clause-run c = run_within
