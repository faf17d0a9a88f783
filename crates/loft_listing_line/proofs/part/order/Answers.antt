use Rattle.loft_listing_line.proofs.Finding.{order_found}
use Rattle.loft_listing_line.proofs.part.order.Goals as goal

pub returns-clause-found : goal.returns-clause-found
returns-clause-found c = order_found c.args.line.now c.read_order.result c.read_order.ensures.only
