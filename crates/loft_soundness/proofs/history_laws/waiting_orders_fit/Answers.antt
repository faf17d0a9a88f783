use Rattle.loft_soundness.proofs.HistoryFits.{waiting_fits, scheduler_fits, sents_fit, threads_fit, posts_fit, clients_fit}
use Rattle.loft_soundness.proofs.OrderLemmas.{outside_for_one}
use Rattle.loft_soundness.proofs.history_laws.waiting_orders_fit.Goals as goal

pub returns-clause-waiting : goal.returns-clause-waiting
returns-clause-waiting c = waiting_fits

pub returns-clause-machines : goal.returns-clause-machines
returns-clause-machines c = scheduler_fits

pub returns-clause-sent : goal.returns-clause-sent
returns-clause-sent c = sents_fit

pub returns-clause-jobs : goal.returns-clause-jobs
returns-clause-jobs c = threads_fit

pub returns-clause-posts : goal.returns-clause-posts
returns-clause-posts c = posts_fit

pub returns-clause-clients : goal.returns-clause-clients
returns-clause-clients c = clients_fit

pub returns-clause-for_one : goal.returns-clause-for_one
returns-clause-for_one c = outside_for_one
