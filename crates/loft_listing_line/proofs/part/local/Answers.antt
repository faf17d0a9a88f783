use Rattle.loft_listing_line.proofs.Finding.{local_found}
use Rattle.loft_listing_line.proofs.part.local.Goals as goal

pub returns-clause-found : goal.returns-clause-found
returns-clause-found c = local_found c.args.line.now c.read_local.result c.read_local.ensures.only
