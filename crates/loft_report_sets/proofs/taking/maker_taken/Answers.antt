use Rattle.loft_report_sets.proofs.TakenLemmas.{of_makers}
use Rattle.loft_report_sets.proofs.taking.maker_taken.Goals as goal

pub returns : goal.returns
returns c = of_makers c.args.bytes.now c.name_taken.result c.name_taken.ensures
