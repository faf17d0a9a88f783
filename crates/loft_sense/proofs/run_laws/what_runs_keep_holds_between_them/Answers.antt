use Rattle.loft_sense.proofs.MomentLemmas.{throughout_pass, throughout_passes}
use Rattle.loft_sense.proofs.run_laws.what_runs_keep_holds_between_them.Goals as goal

pub returns-clause-pass : goal.returns-clause-pass
returns-clause-pass g c = λ x kept rs around p. throughout_pass x g.C.Claim.holds kept rs around p

pub returns-clause-passes : goal.returns-clause-passes
returns-clause-passes g c = λ x kept rs around p. throughout_passes x g.C.Claim.holds kept rs around p
