-- The orders of a batch, one after the other, before any thread runs (docs/SEMANTICS.md, "Apply").
use Rattle.std.specs.Prelude.{nat_lt, pos, Bool, true, false, ◌||◌, List, [], ◌∷◌, ◌++◌, length, if◌then◌else◌}
use Rattle.loft_base.specs.declared.ids.SchedId.{SchedId}
use Rattle.loft_base.specs.declared.ids.ModuleId.{ModuleId}
use Rattle.loft_base.specs.declared.ids.ThreadId.{ThreadId}
use Rattle.loft_base.specs.declared.ids.Value.{Value}
use Rattle.loft_tree.specs.declared.heads.Heads.{Heads}
use Rattle.loft_tree.specs.declared.heads.Place.{Place}
use Rattle.loft_tree.specs.declared.heads.Place.TheVariants as place
use Rattle.loft_board.specs.Board.{Board, no_events, generate}
use Rattle.loft_orders.specs.declared.thread.Thread.{Thread}
use Rattle.loft_orders.specs.declared.thread.Wait.TheVariants.{New}
use Rattle.loft_orders.specs.declared.order.Order.{Order}
use Rattle.loft_orders.specs.declared.order.Order.TheVariants as order
use Rattle.loft_orders.specs.declared.order.End.{End}
use Rattle.loft_orders.specs.declared.order.End.TheVariants.{Stopped, Full as FullEnd}
use Rattle.loft_orders.specs.declared.order.Mark.{Mark}
use Rattle.loft_orders.specs.declared.order.Mark.TheVariants as mark
use Rattle.loft_orders.specs.declared.order.To.{To}
use Rattle.loft_orders.specs.declared.order.To.TheVariants.{Others, All}
use Rattle.loft_orders.specs.declared.order.Sent.{Sent}
use Rattle.loft_orders.specs.declared.note.Ended.{Ended}
use Rattle.loft_orders.specs.declared.note.Standing.{Standing}
use Rattle.loft_sense.specs.declared.limits.TheConstants.{MAX_LINKED}
use Rattle.loft_sense.specs.Heads.{first_values}
use Rattle.loft_sense.specs.Machine.{Prog, heads, Mach}
use Rattle.loft_sense.specs.CanGo.{same_thread}

-- a scheduler while it applies a batch
pub record Applied : Type 0 where
  pub linked : List Standing
  pub known : List ThreadId
  pub board : Board
  -- what became of each order
  pub marks : List Mark
  -- the ends that the orders made
  pub stopped : List Ended
  -- the orders by which the other schedulers learn of them
  pub sent : List Sent

-- a thread that hasn't run
abbrev pub new_thread : Heads → ThreadId → ModuleId → List Value → Thread
new_thread h t m args = record { id = t; code = pos 0; mask = pos 0; wait = New; frames = record { «module» = m; stop = 0; counts = []; values = first_values h t m args } ∷ [] }

-- the last in the list
abbrev pub with_last : Thread → List Standing → List Standing
with_last t linked = linked ++ record { thread = t; suspended = false } ∷ []

abbrev pub is_linked : ThreadId → List Standing → Bool
is_linked t [] = false
is_linked t (s ∷ ss) = same_thread t s.thread.id || is_linked t ss

-- without the first thread of this id
abbrev pub without_first : ThreadId → List Standing → List Standing
without_first t [] = []
without_first t (s ∷ ss) = if same_thread t s.thread.id then ss else s ∷ without_first t ss

-- the first thread of this id is suspended, or isn't
abbrev pub suspend : ThreadId → Bool → List Standing → List Standing
suspend t suspended [] = []
suspend t suspended (s ∷ ss) = if same_thread t s.thread.id then record s { suspended = suspended } ∷ ss else s ∷ suspend t suspended ss

-- who learns by an order that a thread has ended at a place: every scheduler, but for the one where it ended
abbrev pub told : Place → To
told (place.Sched s) = Others s
told place.Unlinked = All

abbrev pub tell_end : Place → ThreadId → End → Sent
tell_end at t end = record { to = told at; order = order.Ended t end }

-- this order has become that
abbrev pub marked : Mark → Applied → Applied
marked m a = record a { marks = a.marks ++ m ∷ [] }

-- this order, whose index in the batch is the number of marks so far, has ended a thread
abbrev pub ended_by : SchedId → ThreadId → End → Mark → Applied → Applied
ended_by s t end m a = record a {
  known = a.known ++ t ∷ [];
  marks = a.marks ++ m ∷ [];
  stopped = a.stopped ++ record { index = length a.marks; thread = t; end = end } ∷ [];
  sent = a.sent ++ tell_end (place.Sched s) t end ∷ [];
}

abbrev pub apply_order : Heads → SchedId → Applied → Order → Applied
apply_order h s a (order.Create t m args) =
    if nat_lt (length a.linked) MAX_LINKED
    then marked mark.Done (record a { linked = with_last (new_thread h t m args) a.linked })
    else ended_by s t FullEnd mark.Full a
apply_order h s a (order.Arrive t) = marked mark.Done (record a { linked = with_last t a.linked })
apply_order h s a (order.Stop t) =
    if is_linked t a.linked
    then ended_by s t Stopped mark.Done (record a { linked = without_first t a.linked })
    else marked mark.Void a
apply_order h s a (order.Suspend t) =
    if is_linked t a.linked
    then marked mark.Done (record a { linked = suspend t true a.linked })
    else marked mark.Void a
apply_order h s a (order.Resume t) =
    if is_linked t a.linked
    then marked mark.Done (record a { linked = suspend t false a.linked })
    else marked mark.Void a
apply_order h s a (order.Broadcast event value) = marked mark.Done (record a { board = generate event value a.board })
apply_order h s a (order.Ended t end) = marked mark.Done (record a { known = a.known ++ t ∷ [] })

abbrev pub apply_orders : Heads → SchedId → Applied → List Order → Applied
apply_orders h s a [] = a
apply_orders h s a (o ∷ os) = apply_orders h s (apply_order h s a o) os

abbrev pub unapplied : Heads → Mach → Applied
unapplied h m = record { linked = m.linked; known = m.known; board = no_events (length h.events); marks = []; stopped = []; sent = [] }

-- the batch at a machine
abbrev pub apply : Prog → Mach → List Order → Applied
apply x m batch = apply_orders (heads x) m.s (unapplied (heads x) m) batch
