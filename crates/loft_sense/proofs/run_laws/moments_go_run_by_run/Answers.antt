use Rattle.loft_sense.proofs.MomentLemmas.{pass_moments, pass_ends, moments_run_by_run, moments_end}
use Rattle.loft_sense.proofs.run_laws.moments_go_run_by_run.Goals as goal

pub returns-clause-pass : goal.returns-clause-pass
returns-clause-pass c = pass_moments

pub returns-clause-pass_ends : goal.returns-clause-pass_ends
returns-clause-pass_ends c = pass_ends

pub returns-clause-passes : goal.returns-clause-passes
returns-clause-passes c = moments_run_by_run

pub returns-clause-passes_end : goal.returns-clause-passes_end
returns-clause-passes_end c = moments_end
