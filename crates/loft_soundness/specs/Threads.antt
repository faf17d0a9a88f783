-- What is claimed of threads, wherever they are in a history (docs/SEMANTICS.md, "History"). P is claimed of a thread that is
-- linked at a place or on its way there, and M is granted with each create: of its thread, its module and its arguments.
use Rattle.std.specs.Prelude.{ℕ, ◌⊎◌, List, All}
use Rattle.loft_base.specs.declared.ids.ModuleId.{ModuleId}
use Rattle.loft_base.specs.declared.ids.SchedId.{SchedId}
use Rattle.loft_base.specs.declared.ids.ThreadId.{ThreadId}
use Rattle.loft_base.specs.declared.ids.Value.{Value}
use Rattle.loft_tree.specs.declared.heads.Place.{Place}
use Rattle.loft_tree.specs.declared.heads.Place.TheVariants.{Sched, Unlinked}
use Rattle.loft_orders.specs.declared.entry.Entry.{Entry}
use Rattle.loft_base.specs.declared.options.RunOptions.{RunOptions}
use Rattle.loft_orders.specs.declared.note.Act.{Act}
use Rattle.loft_orders.specs.declared.note.Act.TheVariants as act
use Rattle.loft_orders.specs.declared.order.Order.{Order}
use Rattle.loft_orders.specs.declared.order.Order.TheVariants as order
use Rattle.loft_orders.specs.declared.order.Sent.{Sent}
use Rattle.loft_orders.specs.declared.order.To.{To}
use Rattle.loft_orders.specs.declared.order.To.TheVariants as to
use Rattle.loft_orders.specs.declared.thread.Thread.{Thread}
use Rattle.loft_sense.specs.Machine.{Prog, heads}
use Rattle.loft_sense.specs.Around.{Around}
use Rattle.loft_sense.specs.Run.{Outcome, Held, Left, Ended}
use Rattle.loft_sense.specs.Passes.{run_of, around_after}
use Rattle.loft_sense.specs.Apply.{new_thread}
use Rattle.loft_sense.specs.Instant.{closed_wait}
use Rattle.loft_history.specs.Clients.{outside_of}
use Rattle.loft_sense.specs.Fits.{Fits}
use Rattle.loft_history.specs.History.{sends, sent_in, starts_of}
use Rattle.loft_history.specs.Legal.{AtEach, IsLegal, IsCallersEntry}
use Rattle.loft_soundness.specs.Points.{AroundFits}
use Rattle.loft_soundness.specs.Machines.{ThreadFits}
use Rattle.loft_soundness.specs.WellFormed.{IsWellFormed}

-- a claim of threads by their place
abbrev pub Claim : Type 1
Claim = Place → Thread → Type 0

-- what is granted with a create, of its thread, its module and its arguments
abbrev pub Grant : Type 1
Grant = ThreadId → ModuleId → List Value → Type 0

-- the thread that the order carries to this scheduler, where it carries one, is so
abbrev pub Carries : Claim → SchedId → Order → Type 0
Carries P s (order.Arrive t) = P (Sched s) t
Carries P s o = Unit {0}

-- the same at each scheduler to which it may be addressed, or at the workers
abbrev pub CarriesTo : Claim → To → Order → Type 0
CarriesTo P (to.Sched s) o = Carries P s o
CarriesTo P (to.Others s) o = (q : SchedId) → Carries P q o
CarriesTo P to.All o = (q : SchedId) → Carries P q o
CarriesTo P to.Workers (order.Arrive t) = P Unlinked t
CarriesTo P to.Workers o = Unit {0}

-- the same of an order and its address
abbrev pub SentCarries : Claim → Sent → Type 0
SentCarries P sent = CarriesTo P sent.to sent.order

-- where the order is a create, it is granted
abbrev pub IsGranted : Grant → Order → Type 0
IsGranted M (order.Create t m args) = M t m args
IsGranted M o = Unit {0}

-- an order that waits for a scheduler or stands in one of its batches
abbrev pub WaitsSo : Claim → Grant → SchedId → Order → Type 0
WaitsSo P M s o = Carries P s o × IsGranted M o

-- where the act sends a create, it is granted
abbrev pub ActGrants : Grant → Act → Type 0
ActGrants M (act.Out t sent) = IsGranted M sent.order
ActGrants M one = Unit {0}

-- a run of a thread that was linked at this place leaves it so: where it stands, or where it goes
abbrev pub LeavesSo : Claim → Place → Outcome → Type 0
LeavesSo P place (Held t around left) = P place t
LeavesSo P place (Left t to around left) = CarriesTo P to (order.Arrive t)
LeavesSo P place (Ended end around left) = Unit {0}

-- Each new thread is so whose create is granted, the close keeps it, and so does each run of a thread that stands.
pub record ThreadsKeep (x : Prog) (P : Claim) (M : Grant) : Type 0 where
  pub begins : (s : SchedId) (t : ThreadId) (m : ModuleId) (args : List Value) → Fits x s (order.Create t m args) → M t m args → P (Sched s) (new_thread (heads x) t m args)
  pub closes : (s : SchedId) (t : Thread) → ThreadFits x (Sched s) t → P (Sched s) t → P (Sched s) (record t { wait = closed_wait t.wait })
  pub runs : (place : Place) (t : Thread) (around : Around) (left : ℕ) → ThreadFits x place t → AroundFits (heads x) place around → P place t → LeavesSo P place (run_of x t around left)

-- Each create is granted by whoever sends it: the source by its starts and its clients, callers, and each thread of which the
-- claim holds.
pub record SendersGrant (x : Prog) (P : Claim) (M : Grant) (es : List Entry) : Type 0 where
  pub starts : (s : SchedId) → All (IsGranted M) (starts_of (heads x) s)
  pub clients : (c : ℕ) → All (λ m. IsGranted M m.order) (outside_of (heads x) c)
  pub callers : AtEach (λ before e. IsCallersEntry x before e → All (λ m. IsGranted M m.order) (sends e)) es
  pub runs : (place : Place) (t : Thread) (around : Around) (left : ℕ) → ThreadFits x place t → AroundFits (heads x) place around → P place t
      → All (ActGrants M) around.acts → All (ActGrants M) (around_after (run_of x t around left)).acts

-- Each create of the history is known to be granted, whoever sends it, and so is each start.
pub record EntriesGrant (x : Prog) (M : Grant) (es : List Entry) : Type 0 where
  pub starts : (s : SchedId) → All (IsGranted M) (starts_of (heads x) s)
  pub entries : All (λ m. IsGranted M m.order) (sent_in es)

-- The claim is kept in this history of a well-formed program, which is legal, and its creates are granted: by those who send
-- them, or as is known of each.
pub record IsKeptIn (x : Prog) (P : Claim) (M : Grant) (o : RunOptions) (es : List Entry) : Type 0 where
  pub well : IsWellFormed x
  pub threads : ThreadsKeep x P M
  pub legal : IsLegal x o es
  pub creates : SendersGrant x P M es ⊎ EntriesGrant x M es
