-- Threads that lie in memory together.
use Rattle.std.specs.Prelude.{pos, ℕ, ◌<◌, List, [], length, slice_index_or}
use Rattle.std.specs.Arc.{arc_value}
use Rattle.loft_base.specs.declared.ids.Maker.TheVariants.{Source}
use Rattle.loft_orders.specs.declared.shared_thread.Memory.{Memory}
use Rattle.loft_orders.specs.declared.shared_thread.Memory.TheVariants.{Own, OfGroup}
use Rattle.loft_orders.specs.declared.thread.Thread.{Thread}
use Rattle.loft_orders.specs.declared.thread.Wait.TheVariants.{New}

-- what stands for a thread where there is none
abbrev pub no_thread : Thread
no_thread = record { id = record { maker = Source; seq = 0 }; code = pos 0; mask = pos 0; wait = New; frames = [] }

-- the thread of a group with this index
abbrev pub member : List Thread → ℕ → Thread
member ts index = slice_index_or ts index no_thread

-- the thread in this memory
abbrev pub thread_in : Memory → Thread
thread_in (Own thread) = arc_value thread
thread_in (OfGroup group index) = member (arc_value group).items index

-- there is a thread in this memory
abbrev pub IsThere : Memory → Type 0
IsThere (Own thread) = Unit {0}
IsThere (OfGroup group index) = index < length (arc_value group).items
