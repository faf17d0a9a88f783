use Rattle.loft_soundness.proofs.AlikeLemmas.{instants_same, blocks_same}
use Rattle.loft_soundness.proofs.HistoryAlike.{histories_same, legal_same, replays_same, ended_same, reports_same}
use Rattle.loft_soundness.proofs.alike_laws.programs_that_run_alike_agree.Goals as goal

pub returns-clause-instants : goal.returns-clause-instants
returns-clause-instants c = instants_same

pub returns-clause-blocks : goal.returns-clause-blocks
returns-clause-blocks c = blocks_same

pub returns-clause-histories : goal.returns-clause-histories
returns-clause-histories c = histories_same

pub returns-clause-legal : goal.returns-clause-legal
returns-clause-legal c = legal_same

pub returns-clause-replays : goal.returns-clause-replays
returns-clause-replays c = replays_same

pub returns-clause-ended : goal.returns-clause-ended
returns-clause-ended c = ended_same

pub returns-clause-reports : goal.returns-clause-reports
returns-clause-reports c = reports_same
