-- What leaving threads send.
use Rattle.std.specs.Prelude.{List, [], ◌∷◌}
use Rattle.loft_orders.specs.declared.order.Order.TheVariants.{Arrive}
use Rattle.loft_orders.specs.declared.order.Sent.{Sent}
use Rattle.loft_orders.specs.declared.order.To.{To}
use Rattle.loft_orders.specs.declared.thread.Thread.{Thread}

-- each thread sends itself to its address
abbrev pub sends_of : List To → List Thread → List Sent
sends_of [] ts = []
sends_of (to ∷ tos) [] = []
sends_of (to ∷ tos) (t ∷ ts) = record { to = to; order = Arrive t } ∷ sends_of tos ts
