-- What the engine keeps in memory during an instant, as plain values.
use Rattle.std.specs.Prelude.{◌-◌, Bool, true, false, ◌&&◌, List, [], ◌∷◌, map, Option, Some, None}
use Rattle.std.specs.List.{flat_map}
use Rattle.loft_orders.specs.declared.note.Standing.{Standing}
use Rattle.loft_orders.specs.declared.order.Stop.{Stop}
use Rattle.loft_orders.specs.declared.order.Stop.TheVariants.{Holds, Leaves, Ends}
use Rattle.loft_orders.specs.declared.order.To.{To}
use Rattle.loft_sense.specs.Around.{Around}
use Rattle.loft_sense.specs.CanGo.{can_go}
use Rattle.loft_sense.specs.Passes.{Runner, Walk}
use Rattle.loft_effect.specs.declared.around.Around.{Around as AroundInMemory}
use Rattle.loft_effect.specs.View.{around_of}
use Rattle.loft_passes.specs.declared.runner.Runner.{Runner as RunnerInMemory}

-- a linked thread between two instants
abbrev pub standing_of : RunnerInMemory → Standing
standing_of r = record { thread = r.thread; suspended = r.suspended }

abbrev pub standings_of : List RunnerInMemory → List Standing
standings_of rs = map standing_of rs

-- a linked thread in an instant, and where it goes at the close, if it leaves
abbrev pub runner_to : Option To → RunnerInMemory → Runner
runner_to leaving r = record { thread = r.thread; suspended = r.suspended; runs = r.runs; left = r.bound - r.steps; leaving = leaving }

-- the same after a run that stopped so: none where the thread has ended
abbrev pub linked_after : Stop → RunnerInMemory → List Runner
linked_after Holds r = runner_to None r ∷ []
linked_after (Leaves to) r = runner_to (Some to) r ∷ []
linked_after (Ends end) r = []

abbrev pub linked_of : RunnerInMemory → List Runner
linked_of r = linked_after r.stop r

-- the linked threads in an instant
abbrev pub runners_of : List RunnerInMemory → List Runner
runners_of rs = flat_map linked_of rs

-- it has neither left nor ended
abbrev pub is_held : Stop → Bool
is_held Holds = true
is_held (Leaves to) = false
is_held (Ends end) = false

-- it is held, and can go
abbrev pub can_run : RunnerInMemory → Around → Bool
can_run r around = is_held r.stop && can_go r.thread.wait r.suspended around.board around.known

-- the threads as a walk over them leaves them, what it leaves around them, and whether it ran anybody
abbrev pub walk_of : List RunnerInMemory → AroundInMemory → Bool → Walk
walk_of rs around ran = record { runners = runners_of rs; around = around_of around; ran = ran }
