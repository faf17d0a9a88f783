-- Choices of declared actors, whose names differ.
use Rattle.std.specs.Prelude.{◌<◌, ◌^◌, length}
use Rattle.loft_tree.specs.Fits.{Each}
use Rattle.loft_tree.specs.NamedFits.{IsName, IsScheduler, ClientHolds, NamesDiffer}
use Rattle.loft_tree.specs.declared.heads.Heads.{Heads}
use Rattle.loft_history.specs.History.{Choice, TakeBy, GiveBy, PickBy, PostBy, ClientBy}

-- schedulers and clients have names, and no two declarations have one name
pub record HasOwnNames (h : Heads) : Type 0 where
  pub schedulers : Each IsName h.schedulers
  pub clients : Each (ClientHolds h) h.clients
  pub differ : NamesDiffer h

-- who makes the choice is declared; a worker has a number that can be written
abbrev pub IsDeclared : Heads → Choice → Type 0
IsDeclared h (TakeBy s) = IsScheduler h s
IsDeclared h (GiveBy s) = IsScheduler h s
IsDeclared h (PickBy w) = w < 2 ^ 64
IsDeclared h (PostBy w) = w < 2 ^ 64
IsDeclared h (ClientBy c) = c < length h.clients
