use Rattle.loft_one_report_head.proofs.Heads.{one_head}
use Rattle.loft_one_report_head.proofs.laws.writers_and_readers_have_one_head.Goals as goal

pub returns : goal.returns
returns c = one_head
