use Rattle.loft_history.proofs.HistoryLemmas.{choices_kept}
use Rattle.loft_history.proofs.LegalLemmas.{made_is_legal, made_without_callers}
use Rattle.loft_history.proofs.laws.made_histories_are_legal.Goals as goal

pub returns-clause-legal : goal.returns-clause-legal
returns-clause-legal c = made_is_legal

pub returns-clause-callers : goal.returns-clause-callers
returns-clause-callers c = made_without_callers

pub returns-clause-choices : goal.returns-clause-choices
returns-clause-choices c = choices_kept
