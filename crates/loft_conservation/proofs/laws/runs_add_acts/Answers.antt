use Rattle.loft_conservation.proofs.RunAdds.{run_adds}
use Rattle.loft_conservation.proofs.WayLemmas.{run_leaves_by, run_makes_at}
use Rattle.loft_conservation.proofs.ActLemmas.{run_sends_well}
use Rattle.loft_conservation.proofs.laws.runs_add_acts.Goals as goal

pub returns-clause-adds : goal.returns-clause-adds
returns-clause-adds c = run_adds

pub returns-clause-ways : goal.returns-clause-ways
returns-clause-ways c = run_leaves_by

pub returns-clause-unlinked : goal.returns-clause-unlinked
returns-clause-unlinked c = run_makes_at

pub returns-clause-creates : goal.returns-clause-creates
returns-clause-creates c = run_sends_well
