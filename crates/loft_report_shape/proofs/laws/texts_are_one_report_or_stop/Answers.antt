use Rattle.loft_report_shape.proofs.Verdicts.{one_report, one_place, no_both, one_of_both}
use Rattle.loft_report_shape.proofs.laws.texts_are_one_report_or_stop.Goals as goal

pub returns-clause-one_report : goal.returns-clause-one_report
returns-clause-one_report c = one_report

pub returns-clause-one_stop : goal.returns-clause-one_stop
returns-clause-one_stop c = one_place

pub returns-clause-never_both : goal.returns-clause-never_both
returns-clause-never_both c = no_both

pub returns-clause-one_of_both : goal.returns-clause-one_of_both
returns-clause-one_of_both c = one_of_both
