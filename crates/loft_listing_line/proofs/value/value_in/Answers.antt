use Rattle.loft_listing_line.proofs.Finding.{expression_found}
use Rattle.loft_listing_line.proofs.value.value_in.Goals as goal

pub returns-clause-found : goal.returns-clause-found
returns-clause-found c = expression_found c.args.text.now c.read_expression.result c.read_expression.ensures.only
