use Rattle.loft_report_shape.proofs.OneText.{one_text}
use Rattle.loft_report_shape.proofs.laws.reports_have_one_text.Goals as goal

pub returns : goal.returns
returns c = one_text
