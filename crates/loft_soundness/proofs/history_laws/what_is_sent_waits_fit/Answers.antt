use Rattle.loft_soundness.proofs.HistoryFits.{sent_waits_fit, sent_jobs_stand}
use Rattle.loft_soundness.proofs.history_laws.what_is_sent_waits_fit.Goals as goal

pub returns-clause-waiting : goal.returns-clause-waiting
returns-clause-waiting c = sent_waits_fit

pub returns-clause-jobs : goal.returns-clause-jobs
returns-clause-jobs c = sent_jobs_stand
