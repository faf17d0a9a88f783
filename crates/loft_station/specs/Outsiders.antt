-- A client of the source with its pass (docs/ACTORS.md, "Turns").
use Rattle.std.specs.Prelude.{◌≡◌, ◌⊎◌, ℕ, ◌+◌, ◌<◌, ◌≤◌, Bool, true, false, [], ◌∷◌, ◌++◌, length}
use Rattle.atomic_table.specs.Seated.{TableId}
use Rattle.loft_base.specs.declared.options.RunOptions.{RunOptions}
use Rattle.loft_code.specs.View.{automata_of}
use Rattle.loft_code.specs.declared.raw.CodeProgram.{CodeProgram}
use Rattle.loft_orders.specs.declared.entry.Actor.TheVariants as actor
use Rattle.loft_orders.specs.declared.entry.Entry.TheVariants as entry
use Rattle.loft_orders.specs.declared.order.Sent.{Sent}
use Rattle.loft_sense.specs.Machine.{Code}
use Rattle.loft_history.specs.History.{creates, unsent}
use Rattle.loft_history.specs.Legal.{IsFaithful, IsFirst}
use Rattle.loft_seat.specs.Seats.{entries_of, HasSame}
use Rattle.loft_station.specs.declared.outsider.Outsider.{Outsider}

-- Its pass, and that it gave the orders that it has to give, in their order, with any options: so many, so many creates among them.
pub record IsReady (b : TableId) (x : CodeProgram) (v : Outsider) : Type 0 where
  pub declared : v.client < length x.heads.clients
  pub seat : HasSame b x (actor.Client v.client) v.seat v.seat
  pub faithful : (o : RunOptions) → IsFaithful (Code (automata_of x)) o (actor.Client v.client) (entries_of v.seat)
  pub given : v.given ≡ length (entries_of v.seat)
  pub creates : v.creates ≡ creates v.client (entries_of v.seat)
  pub few : v.creates ≤ v.given

abbrev pub IsSame : Outsider → Outsider → Type 0
IsSame old new = new.client ≡ old.client

-- it has given all that the source has for it
abbrev pub HasGivenAll : CodeProgram → Outsider → Type 0
HasGivenAll x v = unsent x.heads v.client (entries_of v.seat) ≡ []

-- the first of what it has still to give
abbrev pub IsNext : CodeProgram → Outsider → Sent → Type 0
IsNext x v sent = IsFirst sent (unsent x.heads v.client (entries_of v.seat))

-- it has one entry more, the first of what it had still to give
pub record GaveOrder (x : CodeProgram) (old new : Outsider) (sent : Sent) : Type 0 where
  pub first : IsNext x old sent
  pub entries : entries_of new.seat ≡ entries_of old.seat ++ entry.Client new.client sent ∷ []
  pub one : new.given ≡ old.given + 1

-- an order was given; or there was none to give, and nothing was added
abbrev pub Gave : CodeProgram → Outsider → Outsider → Bool → Type 0
Gave x old new true = (sent : Sent) × GaveOrder x old new sent
Gave x old new false = HasGivenAll x new × (entries_of new.seat ≡ entries_of old.seat)

-- so many orders were given, or there is none to give
abbrev pub HasGiven : ℕ → CodeProgram → Outsider → Outsider → Type 0
HasGiven n x old new = (new.given ≡ old.given + n) ⊎ HasGivenAll x new

-- what its share of a phase left
pub record WentOn (b : TableId) (x : CodeProgram) (old new : Outsider) : Type 0 where
  pub ready : IsReady b x new
  pub same : IsSame old new
  pub made : new.refused ≡ false → HasGiven 32 x old new
