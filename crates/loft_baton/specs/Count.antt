-- How many actors a pass has.
use Rattle.std.specs.Prelude.{List, [], ◌∷◌, Option, Some, None}
use Rattle.loft_orders.specs.declared.entry.Actor.{Actor}
use Rattle.loft_baton.specs.declared.knows.Own.{Own}
use Rattle.loft_baton.specs.declared.actor_count.ActorCount.{ActorCount}
use Rattle.loft_baton.specs.declared.actor_count.ActorCount.TheVariants.{Nobody, One, Several}

abbrev pub count_of : List Own → ActorCount
count_of [] = Nobody
count_of (o ∷ []) = One o.actor
count_of (o ∷ p ∷ others) = Several

-- the one actor, where it is one
abbrev pub sole : List Own → Option Actor
sole [] = None
sole (o ∷ []) = Some o.actor
sole (o ∷ p ∷ others) = None
