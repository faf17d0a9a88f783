-- The orders of a client of the source, one after another (docs/SEMANTICS.md, "History").
use Rattle.std.specs.Prelude.{ℕ, ◌<◌, List, drop, length}
use Rattle.loft_tree.specs.declared.heads.Heads.{Heads}
use Rattle.loft_tree.specs.declared.heads.ClientOrder.{ClientOrder}
use Rattle.loft_tree.specs.declared.heads.ClientOrder.TheVariants as client
use Rattle.loft_orders.specs.declared.order.Sent.{Sent}
use Rattle.loft_history.specs.Clients.{orders_from, orders_of}

-- the orders of a client from this index on, as they are sent, where its next create has this number
abbrev pub orders_at : Heads → ℕ → ℕ → ℕ → List Sent
orders_at h c index create = orders_from h c create (drop index (orders_of h c))

-- an event that is broadcast is declared
abbrev pub HasEvent : Heads → ClientOrder → Type 0
HasEvent h (client.Create s m arguments) = Unit {0}
HasEvent h (client.Control control t s) = Unit {0}
HasEvent h (client.Broadcast e value) = e.0 < length h.events
