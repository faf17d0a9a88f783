-- What is left of a list decides as the whole list does.
use Rattle.std.specs.Prelude.{List}
use Rattle.loft_tree.specs.declared.heads.Place.{Place}
use Rattle.loft_tree.specs.declared.heads.Heads.{Heads}
use Rattle.loft_tree.specs.declared.named.LinkItem.{LinkItem}
use Rattle.loft_tree.specs.NamedTree.{NamedStatements, NamedModule}
use Rattle.loft_place.specs.declared.error.PlaceError.{PlaceError}
use Rattle.loft_place.specs.Links.{Need, AreMet, FirstUnmet, Goes, FaultIn, LinksHold, LinksFault}

-- needs
pub record NeedsLeft (rest whole : List Need) : Type 0 where
  pub met : AreMet rest → AreMet whole
  pub unmet : (e : PlaceError) → FirstUnmet rest e → FirstUnmet whole e

-- the statements of a body that begins at one place, where a thread is by now linked at another
pub record BodyLeft (h : Heads) (begin : Place) (whole : NamedStatements) (here : Place) (rest : NamedStatements) : Type 0 where
  pub goes : (q : Place) → Goes h here rest q → Goes h begin whole q
  pub faults : (e : PlaceError) → FaultIn h here rest e → FaultIn h begin whole e

-- declarations
pub record LinksLeft (h : Heads) (ms : List NamedModule) (rest whole : List LinkItem) : Type 0 where
  pub hold : LinksHold h ms rest → LinksHold h ms whole
  pub faults : (e : PlaceError) → LinksFault h ms rest e → LinksFault h ms whole e
