use Rattle.loft_log.proofs.Reports.{report-world}
use Rattle.loft_log.proofs.law.reports_of_worlds_are_of_histories.Goals as goal

pub returns : goal.returns
returns c = report-world
