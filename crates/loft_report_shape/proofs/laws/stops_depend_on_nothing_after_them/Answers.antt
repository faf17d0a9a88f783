use Rattle.loft_report_shape.proofs.Verdicts.{stop_stays}
use Rattle.loft_report_shape.proofs.laws.stops_depend_on_nothing_after_them.Goals as goal

pub returns : goal.returns
returns c = stop_stays
