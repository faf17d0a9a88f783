-- Threads that a listing can name (docs/CODE.md, "Listings that are read").
use Rattle.std.specs.Prelude.{◌≡◌, ℕ, List, Some, slice_get}
use Rattle.std.specs.Option.{option_map}
use Rattle.loft_base.specs.declared.ids.ThreadId.{ThreadId}
use Rattle.loft_base.specs.declared.ids.Value.{Value}
use Rattle.loft_base.specs.declared.ids.Value.TheVariants as value
use Rattle.loft_tree.specs.declared.heads.Start.{Start}
use Rattle.loft_tree.specs.declared.heads.ClientOrder.{ClientOrder}
use Rattle.loft_tree.specs.declared.heads.ClientOrder.TheVariants as order
use Rattle.loft_tree.specs.declared.heads.Client.{Client}
use Rattle.loft_tree.specs.declared.heads.Heads.{Heads}
use Rattle.loft_tree.specs.Fits.{Each}

-- the start that makes the thread gives it a name
abbrev pub IsNamedThread : Heads → ThreadId → Type 0
IsNamedThread h t = (name : List ℕ) × (option_map (λ x. x.name) (slice_get h.starts t.seq) ≡ Some (Some name))

abbrev pub ArgumentNamed : Heads → Value → Type 0
ArgumentNamed h (value.Int number) = Unit {0}
ArgumentNamed h (value.Thread t) = IsNamedThread h t

abbrev pub StartNamed : Heads → Start → Type 0
StartNamed h t = Each (ArgumentNamed h) t.arguments

abbrev pub OrderNamed : Heads → ClientOrder → Type 0
OrderNamed h (order.Create scheduler m arguments) = Each (ArgumentNamed h) arguments
OrderNamed h (order.Control control t scheduler) = IsNamedThread h t
OrderNamed h (order.Broadcast event value) = Unit {0}

abbrev pub ClientNamed : Heads → Client → Type 0
ClientNamed h c = Each (OrderNamed h) c.orders

-- Each thread in an argument of a start, or in an order of a client, has a name.
pub record ThreadsNamed (h : Heads) : Type 0 where
  pub starts : Each (StartNamed h) h.starts
  pub clients : Each (ClientNamed h) h.clients
