use Rattle.loft_report_options.proofs.Head.{options_in_range}
use Rattle.loft_report_options.proofs.laws.options_of_reports_are_in_range.Goals as goal

pub returns : goal.returns
returns c = options_in_range
