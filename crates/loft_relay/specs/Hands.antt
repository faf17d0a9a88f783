-- Any number of clients with their passes (docs/BATON.md, "Programs").
use Rattle.std.specs.Prelude.{◌≡◌, ℕ, ◌==◌, List, [], ◌∷◌, ◌++◌, map, true, false, Option}
use Rattle.std.specs.List.{All, AllPairs}
use Rattle.atomic_table.specs.Seated.{TableId}
use Rattle.loft_code.specs.declared.raw.CodeProgram.{CodeProgram}
use Rattle.loft_orders.specs.declared.entry.Actor.{Actor}
use Rattle.loft_orders.specs.declared.entry.Actor.TheVariants as actor
use Rattle.loft_orders.specs.declared.order.Sent.{Sent}
use Rattle.loft_baton.specs.declared.knows.Knows.{Knows}
use Rattle.loft_baton.specs.declared.knows.Own.{Own}
use Rattle.loft_baton.specs.Knowing.{IsIdle, own_of}
use Rattle.loft_baton.specs.PassValue.{PassValue}
use Rattle.loft_relay.specs.declared.many.Hand.{Hand}
use Rattle.loft_relay.specs.Gives.{entries_of, IsOrderFor, HasGiven}

-- a client that has given nothing yet, with a pass for this code
pub record IsReady (b : TableId) (x : Option CodeProgram) (h : Hand) : Type 0 where
  pub given : HasGiven b h.client [] h.pass
  pub code : h.pass.knows.code ≡ x

-- a client that has given nothing yet, and may give these orders
pub record MayGive (b : TableId) (sents : List Sent) (h : Hand) : Type 0 where
  pub given : HasGiven b h.client [] h.pass
  pub orders : All (IsOrderFor h.pass.knows.code) sents

-- a client that has given these orders
abbrev pub IsDone : TableId → List Sent → Hand → Type 0
IsDone b sents h = HasGiven b h.client sents h.pass

-- no client stands twice
abbrev pub AreApart : List ℕ → Type 0
AreApart clients = AllPairs (λ c d. (d == c) ≡ false) clients

abbrev pub actors_of : List ℕ → List Actor
actors_of clients = map (λ c. actor.Client c) clients

abbrev pub clients_of : List Hand → List ℕ
clients_of hands = map (λ h. h.client) hands

-- each client with the entries of these orders
abbrev pub owns_of : List Sent → List ℕ → List Own
owns_of sents clients = map (λ c. own_of (actor.Client c) (entries_of c sents)) clients

-- what the hands' passes have, one after another
abbrev pub owns_in : List Hand → List Own
owns_in [] = []
owns_in (h ∷ hands) = h.pass.knows.own ++ owns_in hands

-- the giving pass, without an actor of its own, after it gave these out
pub record IsMain (b : TableId) (x : Option CodeProgram) (out : List Actor) (p : PassValue) : Type 0 where
  pub baton : p.baton ≡ b
  pub idle : IsIdle p.knows
  pub gives : p.knows.gives ≡ true
  pub given : p.knows.given ≡ out
  pub code : p.knows.code ≡ x
  pub own : p.knows.own ≡ []

-- the giving pass, which has given out what v has
pub record IsWhole (b : TableId) (v : Knows) (p : PassValue) : Type 0 where
  pub baton : p.baton ≡ b
  pub idle : IsIdle p.knows
  pub gives : p.knows.gives ≡ true
  pub given : p.knows.given ≡ v.given
