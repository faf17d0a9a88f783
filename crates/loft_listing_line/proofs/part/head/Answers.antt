use Rattle.loft_listing_line.proofs.Finding.{head_found}
use Rattle.loft_listing_line.proofs.part.head.Goals as goal

pub returns-clause-found : goal.returns-clause-found
returns-clause-found c = head_found c.args.line.now c.read_head.result c.read_head.ensures.only
