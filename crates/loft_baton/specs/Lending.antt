-- The world that is lent out of a thread's hands.
use Rattle.std.specs.Borrow.{Lends, MutBor, Fml}
use Rattle.loft_world.specs.State.{State}
use Rattle.loft_baton.specs.contracts.baton.Held.{the_row as held_row}
use Rattle.loft_baton.specs.contracts.boxed_world.BoxedWorld.{the_row as boxed_row}
use Rattle.loft_world.specs.contracts.world.World.{the_row as world_row}

-- the held world ends as the one that was lent
abbrev pub LendsWorld : MutBor State → MutBor State → Fml
LendsWorld s r = Lends held_row world_row s r (λ w. w)

-- the world in memory of its own ends as the one that was lent
abbrev pub LendsBoxed : MutBor State → MutBor State → Fml
LendsBoxed s r = Lends boxed_row world_row s r (λ w. w)
