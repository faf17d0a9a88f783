use Rattle.loft_report_head.proofs.Heads.{one_head}
use Rattle.loft_report_head.proofs.laws.heads_are_read_in_one_way.Goals as goal

pub returns : goal.returns
returns c = one_head
