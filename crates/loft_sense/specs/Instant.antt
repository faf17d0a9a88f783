-- One instant of a scheduler, and the replay of all its batches (docs/SEMANTICS.md, "Instant").
use Rattle.std.specs.Prelude.{ℕ, zero, suc, ◌+◌, nat_lt, ℤ, pos, negsuc, Bool, not, List, [], ◌∷◌, ◌++◌, map, filter, Option, Some, None, is_some, option_map, if◌then◌else◌}
use Rattle.std.specs.List.{flat_map}
use Rattle.std.specs.Ordering.{int_eq}
use Rattle.loft_base.specs.declared.ids.SchedId.{SchedId}
use Rattle.loft_base.specs.declared.ids.SharedId.{SharedId}
use Rattle.loft_tree.specs.declared.heads.Place.{Place}
use Rattle.loft_tree.specs.declared.heads.Place.TheVariants.{Sched}
use Rattle.loft_orders.specs.declared.thread.Thread.{Thread}
use Rattle.loft_orders.specs.declared.thread.Wait.{Wait}
use Rattle.loft_orders.specs.declared.thread.Wait.TheVariants.{Coop, Events, Index, Next, Join}
use Rattle.loft_orders.specs.declared.order.Order.{Order}
use Rattle.loft_orders.specs.declared.order.Order.TheVariants.{Arrive}
use Rattle.loft_orders.specs.declared.order.To.{To}
use Rattle.loft_orders.specs.declared.order.Sent.{Sent}
use Rattle.loft_orders.specs.declared.note.Act.{Act}
use Rattle.loft_orders.specs.declared.note.Act.TheVariants as act
use Rattle.loft_orders.specs.declared.note.Change.{Change}
use Rattle.loft_orders.specs.declared.note.Standing.{Standing}
use Rattle.loft_orders.specs.declared.note.InstantNote.{InstantNote}
use Rattle.loft_base.specs.declared.options.Limits.{Limits}
use Rattle.loft_sense.specs.Heads.{shared_of}
use Rattle.loft_sense.specs.Tally.{tally_after}
use Rattle.loft_sense.specs.Machine.{Prog, heads, Mach, empty}
use Rattle.loft_sense.specs.Around.{Around}
use Rattle.loft_sense.specs.Passes.{Runner, Walk, passes}
use Rattle.loft_sense.specs.Apply.{Applied, apply, tell_end}

-- a linked thread as the passes begin
abbrev pub runner_of : ℕ → Standing → Runner
runner_of budget s = record { thread = s.thread; suspended = s.suspended; runs = 0; left = budget; leaving = None }

-- what the first thread finds around it
abbrev pub around_of : Mach → Applied → Around
around_of m a = record { place = Sched m.s; board = a.board; shared = m.shared; known = a.known; made = m.made; entries = 0; acts = [] }

-- a number left in a wait, one lower where it is positive
abbrev pub lowered : ℤ → ℤ
lowered (pos zero) = pos 0
lowered (pos (suc n)) = pos n
lowered (negsuc n) = negsuc n

-- a wait as the instant closes: its number is lowered, and a value has not come
abbrev pub closed_wait : Wait → Wait
closed_wait (Coop left) = Coop (lowered left)
closed_wait (Events events left) = Events events (option_map lowered left)
closed_wait (Index event at) = Next
closed_wait (Join thread left) = Join thread (option_map lowered left)
closed_wait w = w

-- a suspended thread's wait stands still
abbrev pub closed_thread : Runner → Thread
closed_thread r = if r.suspended then r.thread else record r.thread { wait = closed_wait r.thread.wait }

abbrev pub closed : Runner → Standing
closed r = record { thread = closed_thread r; suspended = r.suspended }

-- it is linked after the close
abbrev pub stays : Runner → Bool
stays r = not (is_some r.leaving)

abbrev pub has_run : Runner → Bool
has_run r = nat_lt 0 r.runs

-- a thread that leaves is sent where it goes
abbrev pub leaver : Thread → Option To → List Sent
leaver t None = []
leaver t (Some to) = record { to = to; order = Arrive t } ∷ []

abbrev pub leavers : List Runner → List Sent
leavers rs = flat_map (λ r. leaver r.thread r.leaving) rs

-- of these variables, those whose value has changed, with the new one
abbrev pub changes : List SharedId → List ℤ → List ℤ → List Change
changes [] old new = []
changes (x ∷ xs) [] new = []
changes (x ∷ xs) (v ∷ old) [] = []
changes (x ∷ xs) (v ∷ old) (w ∷ new) = if int_eq v w then changes xs old new else record { shared = x; value = w } ∷ changes xs old new

-- the orders among the acts, and one for each end
abbrev pub sent_by : Place → List Act → List Sent
sent_by at [] = []
sent_by at (act.Out t sent ∷ acts) = sent ∷ sent_by at acts
sent_by at (act.End t end ∷ acts) = tell_end at t end ∷ sent_by at acts
sent_by at (a ∷ acts) = sent_by at acts

-- an instant: the machine after it, and what it did
pub record AfterInstant : Type 0 where
  pub machine : Mach
  pub note : InstantNote

-- what the close leaves of it; its instant isn't told yet
abbrev pub machine_closed : Mach → Walk → Mach
machine_closed m w = record m { linked = map closed (filter stays w.runners); shared = w.around.shared; known = w.around.known; made = w.around.made }

-- the instant with this note is one more
abbrev pub machine_after : Prog → Mach → List Order → InstantNote → Walk → Mach
machine_after x m batch note w = record (machine_closed m w) { tally = tally_after (heads x) m.tally batch note }

abbrev pub note_of : Prog → Mach → Applied → Walk → InstantNote
note_of x m a w = record {
  number = m.tally.number + 1;
  marks = a.marks;
  stopped = a.stopped;
  acts = w.around.acts;
  sent = a.sent ++ (sent_by (Sched m.s) w.around.acts ++ leavers w.runners);
  stands = map closed_thread (filter has_run (filter stays w.runners));
  changed = changes (shared_of (heads x) m.s) m.shared w.around.shared;
}

-- the batch is applied, then passes are made until one runs nobody, then the instant closes
unfoldable pub instant : Prog → Limits → Mach → List Order → AfterInstant
instant x limits m batch =
    let a = apply x m batch in
    let w = passes x (map (runner_of limits.budget) a.linked) (around_of m a) in
    let note = note_of x m a w in
    record { machine = machine_after x m batch note w; note = note }

-- the machine and the notes after some instants
pub record Replayed : Type 0 where
  pub machine : Mach
  pub notes : List InstantNote

abbrev pub one_more : Prog → Limits → Replayed → List Order → Replayed
one_more x limits r batch =
    let did = instant x limits r.machine batch in
    record { machine = did.machine; notes = r.notes ++ did.note ∷ [] }

abbrev pub replay_on : Prog → Limits → Replayed → List (List Order) → Replayed
replay_on x limits r [] = r
replay_on x limits r (batch ∷ batches) = replay_on x limits (one_more x limits r batch) batches

-- the instants of a scheduler on its batches, from the beginning
abbrev pub replay : Prog → Limits → SchedId → List (List Order) → Replayed
replay x limits s batches = replay_on x limits (record { machine = empty x s; notes = [] }) batches
