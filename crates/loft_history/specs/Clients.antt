-- The orders of a program's clients, as they are sent (docs/SEMANTICS.md, "History").
use Rattle.std.specs.Prelude.{ℕ, ◌+◌, List, [], ◌∷◌, slice_get}
use Rattle.std.specs.Option.{option_map_or}
use Rattle.loft_base.specs.declared.ids.Maker.TheVariants as maker
use Rattle.loft_base.specs.declared.ids.ThreadId.{ThreadId}
use Rattle.loft_tree.specs.declared.heads.ClientOrder.{ClientOrder}
use Rattle.loft_tree.specs.declared.heads.ClientOrder.TheVariants as client
use Rattle.loft_tree.specs.declared.heads.Heads.{Heads}
use Rattle.loft_sense.specs.Statements.{order_of}
use Rattle.loft_orders.specs.declared.order.Order.TheVariants as order
use Rattle.loft_orders.specs.declared.order.To.TheVariants.{Sched}
use Rattle.loft_orders.specs.declared.order.Sent.{Sent}
use Rattle.loft_sense.specs.Heads.{home}

-- the k-th thread that a client makes
abbrev pub made_by : ℕ → ℕ → ThreadId
made_by c k = record { maker = maker.Client c; seq = k }

-- a client's orders as they are sent, where its next create is number k: each goes to the scheduler that it names, a broadcast to its event's
abbrev pub orders_from : Heads → ℕ → ℕ → List ClientOrder → List Sent
orders_from h c k [] = []
orders_from h c k (client.Create s m arguments ∷ os) = record { to = Sched s; order = order.Create (made_by c k) m arguments } ∷ orders_from h c (k + 1) os
orders_from h c k (client.Control control t s ∷ os) = record { to = Sched s; order = order_of control t } ∷ orders_from h c k os
orders_from h c k (client.Broadcast e value ∷ os) = record { to = Sched (home h e); order = order.Broadcast e value } ∷ orders_from h c k os

-- a client's orders as the source has them, none if it has no such client
abbrev pub orders_of : Heads → ℕ → List ClientOrder
orders_of h c = option_map_or (λ d. d.orders) (slice_get h.clients c) []

-- all that a client of the source sends, in the order of the text
abbrev pub outside_of : Heads → ℕ → List Sent
outside_of h c = orders_from h c 0 (orders_of h c)
