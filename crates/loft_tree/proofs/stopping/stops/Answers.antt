use Rattle.std.proofs.Common.{arith}
use Rattle.loft_tree.specs.NamedView.{statements_of}
use Rattle.loft_tree.proofs.StopLemmas.{body_stops-le}
use Rattle.loft_tree.proofs.stopping.stops.Goals as goal

-- a body has no more stops than statements, of which there are few
pub body_stops-requires : goal.body_stops-requires
body_stops-requires c = rw c.as_slice.ensures.value (omega (arith, body_stops-le (statements_of c.args.module.now.body.items), c.args.module.now.few))
