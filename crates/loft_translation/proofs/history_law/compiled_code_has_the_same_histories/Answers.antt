use Rattle.loft_translation.proofs.SameHistories.{runs_alike, code_alike, code_histories, code_legal, code_ended, code_reports}
use Rattle.loft_translation.proofs.history_law.compiled_code_has_the_same_histories.Goals as goal

pub returns-clause-runs : goal.returns-clause-runs
returns-clause-runs c = runs_alike

pub returns-clause-alike : goal.returns-clause-alike
returns-clause-alike c = code_alike

pub returns-clause-histories : goal.returns-clause-histories
returns-clause-histories c = code_histories

pub returns-clause-legal : goal.returns-clause-legal
returns-clause-legal c = code_legal

pub returns-clause-ended : goal.returns-clause-ended
returns-clause-ended c = code_ended

pub returns-clause-reports : goal.returns-clause-reports
returns-clause-reports c = code_reports
