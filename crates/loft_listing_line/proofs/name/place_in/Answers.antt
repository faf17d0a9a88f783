use Rattle.std.proofs.Common.{sym, ◌∙◌}
use Rattle.loft_listing_line.proofs.Naming.{only_unlinked}
use Rattle.loft_listing_line.proofs.name.place_in.Goals as goal

pub returns-then-eq-clause-found : goal.returns-then-eq-clause-found
returns-then-eq-clause-found c x fits same short =
    only_unlinked x c.args.bytes.now c.spelling.result.now fits same c.spelling.ensures (sym c.eq.ensures ∙ c.if-eq.true)
