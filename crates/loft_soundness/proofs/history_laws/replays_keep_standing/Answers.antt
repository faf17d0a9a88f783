use Rattle.loft_soundness.proofs.HistoryFits.{replayed_machine, replayed_notes, replayed_values}
use Rattle.loft_soundness.proofs.history_laws.replays_keep_standing.Goals as goal

pub returns-clause-machine : goal.returns-clause-machine
returns-clause-machine c = replayed_machine

pub returns-clause-sent : goal.returns-clause-sent
returns-clause-sent c = replayed_notes

pub returns-clause-values : goal.returns-clause-values
returns-clause-values c = replayed_values
