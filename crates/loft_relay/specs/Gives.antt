-- What one client gives (docs/BATON.md, "Programs").
use Rattle.std.specs.Prelude.{◌≡◌, ℕ, List, [], ◌∷◌, map, Option, Some, None}
use Rattle.atomic_table.specs.Seated.{TableId}
use Rattle.loft_code.specs.View.{automata_of}
use Rattle.loft_code.specs.declared.raw.CodeProgram.{CodeProgram}
use Rattle.loft_orders.specs.declared.entry.Actor.TheVariants as actor
use Rattle.loft_orders.specs.declared.entry.Entry.{Entry}
use Rattle.loft_orders.specs.declared.entry.Entry.TheVariants as entry
use Rattle.loft_orders.specs.declared.order.Sent.{Sent}
use Rattle.loft_sense.specs.Machine.{Code}
use Rattle.loft_soundness.specs.Machines.{SentFits}
use Rattle.loft_world.specs.State.{IsToOne, IsForClients}
use Rattle.loft_baton.specs.Knowing.{IsIdle, own_of}
use Rattle.loft_baton.specs.PassValue.{PassValue}

-- the entries of a client that gives these orders
abbrev pub entries_of : ℕ → List Sent → List Entry
entries_of c sents = map (λ m. entry.Client c m) sents

-- an order that a client may give in a run of this code: it goes to one scheduler, is of a kind that clients give, and fits
pub record IsOrder (x : CodeProgram) (m : Sent) : Type 0 where
  pub one : IsToOne x.heads m.to
  pub kind : IsForClients m.order
  pub fits : SentFits (Code (automata_of x)) m

-- the same for the code that a pass knows
abbrev pub IsOrderFor : Option CodeProgram → Sent → Type 0
IsOrderFor None m = ⊥
IsOrderFor (Some x) m = IsOrder x m

-- an idle pass of one client, which has given these orders and no others
pub record HasGiven (b : TableId) (c : ℕ) (sents : List Sent) (p : PassValue) : Type 0 where
  pub baton : p.baton ≡ b
  pub idle : IsIdle p.knows
  pub own : p.knows.own ≡ own_of (actor.Client c) (entries_of c sents) ∷ []
