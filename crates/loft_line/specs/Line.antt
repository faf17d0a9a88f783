-- The linked threads of a scheduler whose waits are kept over its instants (docs/SEMANTICS.md, "Waiting lists").
use Rattle.std.specs.Prelude.{◌≡◌, ℕ, ◌+◌, ◌<◌, ◌≤◌, ◌==◌, not, ◌&&◌, ◌||◌, Bool, true, false, List, [], ◌∷◌, map, filter, length, Option, Some, None, slice_get, slice_set, slice_index_or, if◌then◌else◌}
use Rattle.std.specs.List.{flat_map}
use Rattle.loft_base.specs.declared.ids.ThreadId.{ThreadId}
use Rattle.loft_finder.specs.declared.finder.Finder.{Finder}
use Rattle.loft_finder.specs.Finder.{may_stand, KeepsOthers}
use Rattle.loft_orders.specs.declared.note.Standing.{Standing}
use Rattle.loft_orders.specs.declared.order.Sent.{Sent}
use Rattle.loft_orders.specs.declared.thread.Thread.{Thread}
use Rattle.loft_orders.specs.declared.thread.Wait.{Wait}
use Rattle.loft_orders.specs.declared.thread.Wait.TheVariants.{Halt}
use Rattle.loft_sense.specs.Around.{Around}
use Rattle.loft_sense.specs.CanGo.{same_thread}
use Rattle.loft_sense.specs.Instant.{runner_of, closed_wait, stays, has_run, leavers}
use Rattle.loft_passes.specs.declared.runner.Runner.{Runner}
use Rattle.loft_passes.specs.View.{standing_of, linked_of, is_held}
use Rattle.loft_ready.specs.Entered.{wait_of}
use Rattle.loft_waits.specs.Told.{counts_of, wait_at, ends_alone}
use Rattle.loft_sense.specs.Rest.{waits_for_ever}
use Rattle.loft_line.specs.declared.line.Line.{Line}

-- a thread with the wait that is kept for it, if there is one
abbrev pub with_wait : Option Wait → Runner → Runner
with_wait None r = r
with_wait (Some w) r = record r { thread = record r.thread { wait = w } }

-- a thread whose wait is kept elsewhere
abbrev pub without_wait : Runner → Runner
without_wait r = if is_held r.stop && not r.suspended then with_wait (Some Halt) r else r

-- a thread with another wait, if there is one
abbrev pub thread_with : Option Wait → Thread → Thread
thread_with None t = t
thread_with (Some w) t = record t { wait = w }

abbrev pub with_waits : List Runner → List (Option Wait) → List Runner
with_waits [] ws = []
with_waits (r ∷ rs) [] = r ∷ rs
with_waits (r ∷ rs) (w ∷ ws) = with_wait w r ∷ with_waits rs ws

-- by position the threads, each with its wait; whoever has left or ended is among them
abbrev pub runners_in : Line → List Runner
runners_in l = with_waits l.slots.items l.waits.waits

-- how a thread stands that has neither left nor ended
abbrev pub standing_if : Runner → List Standing
standing_if r = if is_held r.stop then standing_of r ∷ [] else []

abbrev pub standings_in : List Runner → List Standing
standings_in rs = flat_map standing_if rs

-- it hasn't run in this instant
abbrev pub Rests : ℕ → Runner → Type 0
Rests budget r = linked_of r ≡ map (runner_of budget) (standing_if r)

-- the thread at a position is marked as one that has run
abbrev pub is_marked : List ℕ → ℕ → Bool
is_marked ran i = slice_index_or ran i 0 == 1

abbrev pub one_if : Bool → ℕ
one_if true = 1
one_if false = 0

-- how many were held as the instant began: they are still, or have run
abbrev pub count_present : List Runner → List ℕ → ℕ
count_present [] bs = 0
count_present (r ∷ rs) [] = 0
count_present (r ∷ rs) (b ∷ bs) = one_if (is_held r.stop || b == 1) + count_present rs bs

-- whoever isn't marked hasn't run in this instant
abbrev pub AreMarked : ℕ → List Runner → List ℕ → Type 0
AreMarked budget rs ran = (i : ℕ) (r : Runner) → slice_get rs i ≡ Some r → is_marked ran i ≡ false → Rests budget r

-- held threads may stand, by their ids, where they do
abbrev pub AreNamed : Finder → List Runner → Type 0
AreNamed finder rs = (i : ℕ) (r : Runner) → slice_get rs i ≡ Some r → is_held r.stop ≡ true → may_stand finder r.thread.id i ≡ true

-- the waits are those of the threads, whoever has run is marked, and whoever is held can be found by his id
pub record IsLine (l : Line) : Type 0 where
  pub waits : l.waits.waits ≡ map wait_of (runners_in l)
  pub many : length l.ran ≡ length l.slots.items
  pub marked : AreMarked l.budget (runners_in l) l.ran
  pub held : l.held ≡ count_present (runners_in l) l.ran
  pub named : AreNamed l.finder (runners_in l)

-- nobody has run in this instant
pub record IsIdle (l : Line) : Type 0 where
  pub line : IsLine l
  pub unmarked : (i : ℕ) → is_marked l.ran i ≡ false

-- only the threads and their waits have changed
pub record KeepsTold (old new : Line) : Type 0 where
  pub told : new.waits ≡ record old.waits { waits = new.waits.waits }
  pub budget : new.budget ≡ old.budget

-- the waits were told what stands around the threads
pub record IsTold (l : Line) (around : Around) : Type 0 where
  pub counts : l.waits.counts ≡ counts_of around.board
  pub ended : l.waits.ended ≡ around.known

-- a held thread with this id
abbrev pub is_named : ThreadId → Runner → Bool
is_named t r = is_held r.stop && same_thread t r.thread.id

-- the first held thread with this id stands at this position
pub record IsFirstAt (p : ℕ) (t : ThreadId) (rs : List Runner) : Type 0 where
  pub runner : Runner
  pub there : slice_get rs p ≡ Some runner
  pub named : is_named t runner ≡ true
  pub first : (i : ℕ) (r : Runner) → i < p → slice_get rs i ≡ Some r → is_named t r ≡ false

abbrev pub IsFirst : Option ℕ → ThreadId → List Runner → Type 0
IsFirst None t rs = (i : ℕ) (r : Runner) → slice_get rs i ≡ Some r → is_named t r ≡ false
IsFirst (Some p) t rs = IsFirstAt p t rs

-- what a thread leaves for the note of its instant: itself where it ran and is held, or what it sends as it leaves
abbrev pub stands_if : Runner → List Thread
stands_if r = map (λ q. q.thread) (filter has_run (filter stays (linked_of r)))

abbrev pub leaves_if : Runner → List Sent
leaves_if r = leavers (linked_of r)

-- a thread whose wait is kept, as that closes
abbrev pub closing : Runner → Runner
closing r = if is_held r.stop && not r.suspended then record r { thread = record r.thread { wait = closed_wait r.thread.wait } } else r

-- what a run leaves as it was
pub record KeepsRun (old new : Line) : Type 0 where
  pub budget : new.budget ≡ old.budget
  pub closes : new.waits.closes ≡ old.waits.closes

-- the thread at a position, with its wait
abbrev pub IsThreadAt : ℕ → List Runner → Thread → Type 0
IsThreadAt p rs t = (r : Runner) → slice_get rs p ≡ Some r → t ≡ r.thread

-- nobody stands at a position any more
pub record IsEmptied (p : ℕ) (old new : List Runner) : Type 0 where
  pub hole : Runner
  pub gone : is_held hole.stop ≡ false
  pub nobody : linked_of hole ≡ []
  pub slots : new ≡ slice_set old p hole

-- a held thread as its next instant begins
pub record IsBegun (budget : ℕ) (was now : Runner) : Type 0 where
  pub rests : Rests budget now
  pub stop : is_held now.stop ≡ true
  pub standing : standing_if now ≡ standing_if was
  pub waits : wait_of now ≡ wait_of was

-- the thread at a position that is held hasn't run, and nothing else has changed
pub record HasBegunAt (p : ℕ) (old new : Line) : Type 0 where
  pub now : Runner
  pub runners : (r : Runner) → slice_get (runners_in old) p ≡ Some r → is_held r.stop ≡ true → IsBegun old.budget r now
  pub slots : with_waits new.slots.items old.waits.waits ≡ slice_set (runners_in old) p now
  pub long : length new.slots.items ≡ length old.slots.items
  pub ran : new.ran ≡ old.ran
  pub told : new.waits ≡ old.waits
  pub held : new.held ≡ old.held
  pub budget : new.budget ≡ old.budget
  pub finder : new.finder ≡ old.finder

-- the thread at a position has closed, and nothing else has changed
pub record HasClosedAt (p : ℕ) (old new : Line) : Type 0 where
  pub was : Runner
  pub there : slice_get (runners_in old) p ≡ Some was
  pub now : Runner
  pub runners : runners_in new ≡ slice_set (runners_in old) p now
  pub rests : Rests old.budget now
  pub stop : is_held now.stop ≡ is_held was.stop
  pub standing : standing_if now ≡ standing_if was
  pub waits : wait_of now ≡ wait_of was
  pub long : length new.slots.items ≡ length old.slots.items
  pub ran : new.ran ≡ slice_set old.ran p 0
  pub told : new.waits ≡ old.waits
  pub held : new.held + 1 ≡ old.held + one_if (is_held was.stop)
  pub budget : new.budget ≡ old.budget
  pub finder : KeepsOthers p old.finder new.finder
  pub stays : is_held was.stop ≡ true → new.finder ≡ old.finder

-- what closes leave as it was
pub record HasClosed (old new : Line) : Type 0 where
  pub told : new.waits ≡ old.waits
  pub budget : new.budget ≡ old.budget

-- whoever waits for what doesn't end by itself waits for what isn't there
abbrev pub IsQuiet : Line → Type 0
IsQuiet l = (i : ℕ) (w : Wait) → wait_at l.waits i ≡ Some w → ends_alone w ≡ false → waits_for_ever w l.waits.ended ≡ true

-- nobody is held from one position on and before another
abbrev pub AreEmpty : ℕ → ℕ → List Runner → Type 0
AreEmpty a b rs = (i : ℕ) (r : Runner) → a ≤ i → i < b → slice_get rs i ≡ Some r → is_held r.stop ≡ false

-- everybody before a position is held
abbrev pub AreFull : ℕ → List Runner → Type 0
AreFull n rs = (i : ℕ) (r : Runner) → i < n → slice_get rs i ≡ Some r → is_held r.stop ≡ true

-- the threads of two positions stand in each other's place, and nothing else has changed
pub record HasMoved (to pos : ℕ) (old new : Line) : Type 0 where
  pub idle : IsIdle new
  pub told : KeepsTold old new
  pub long : length new.slots.items ≡ length old.slots.items
  pub runners : (h r : Runner) → slice_get (runners_in old) to ≡ Some h → slice_get (runners_in old) pos ≡ Some r → runners_in new ≡ slice_set (slice_set (runners_in old) pos h) to r

-- those that stood before a position stand at the first places, in their order
pub record IsPacked (next pos : ℕ) (old new : Line) : Type 0 where
  pub idle : IsIdle new
  pub told : KeepsTold old new
  pub long : length new.slots.items ≡ length old.slots.items
  pub linked : standings_in (runners_in new) ≡ standings_in (runners_in old)
  pub order : next ≤ pos
  pub full : AreFull next (runners_in new)
  pub empty : AreEmpty next pos (runners_in new)
