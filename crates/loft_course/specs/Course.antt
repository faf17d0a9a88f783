-- A run so far: its world, its schedulers and workers with their engines, and how far each client is (docs/SEMANTICS.md, "History").
use Rattle.std.specs.Prelude.{◌≡◌, ℕ, ◌≤◌, Bool, true, false, List, [], ◌∷◌, ◌++◌, map, length, All, Ok, MatchOption}
use Rattle.std.specs.List.{range_with_len}
use Rattle.loft_base.specs.declared.ids.SchedId.{SchedId}
use Rattle.loft_base.specs.Options.{HasWorkers}
use Rattle.loft_tree.specs.declared.limits.TheConstants.{MAX_SCHEDULERS, MAX_CLIENTS}
use Rattle.loft_tree.specs.Fits.{Each}
use Rattle.loft_tree.specs.NamedFits.{IsScheduler}
use Rattle.loft_orders.specs.declared.entry.Entry.{Entry}
use Rattle.loft_orders.specs.declared.entry.Actor.TheVariants as actor
use Rattle.loft_base.specs.declared.options.RunOptions.{RunOptions}
use Rattle.loft_orders.specs.declared.note.InstantNote.{InstantNote}
use Rattle.loft_orders.specs.declared.note.FinalState.{FinalState}
use Rattle.loft_orders.specs.declared.order.Sent.{Sent}
use Rattle.loft_sense.specs.Machine.{Prog, Code, heads as heads_of, Mach}
use Rattle.loft_sense.specs.Fits.{Fits}
use Rattle.loft_sense.specs.Async.{async}
use Rattle.loft_history.specs.Clients.{outside_of}
use Rattle.loft_history.specs.History.{Choice, choice_of, hist, entry_of, waiting, jobs, is_open, unposted, is_busy, creates, unsent, replayed}
use Rattle.loft_history.specs.Legal.{of, FitsOne}
use Rattle.loft_sense.specs.Heads.{scheduler}
use Rattle.loft_world.specs.State.{State}
use Rattle.loft_world.specs.Replay.{stand_of}
use Rattle.loft_conservation.specs.Blocks.{IsBlock}
use Rattle.loft_turn_parts.specs.Clients.{orders_at}
use Rattle.loft_course.specs.Blocks.{IsHand}

-- what a station shows: a scheduler, how it stands, the notes of its instants, and whether it is in one; then it stands as after that, also where it is still to be made
pub record Stand : Type 0 where
  pub scheduler : SchedId
  pub failed : Bool
  pub machine : Mach
  pub notes : List InstantNote
  pub running : Bool

-- what the history makes of the scheduler of this index
abbrev pub stand_after : Prog → RunOptions → List Entry → ℕ → Stand
stand_after x o h k = record {
  scheduler = scheduler k;
  failed = false;
  machine = (replayed x o.limits (scheduler k) h).machine;
  notes = (replayed x o.limits (scheduler k) h).notes;
  running = is_open (scheduler k) h;
}

-- the stands of the first so many schedulers
abbrev pub stands_after : Prog → RunOptions → List Entry → ℕ → List Stand
stands_after x o h count = map (stand_after x o h) (range_with_len 0 count)

-- what a worker shows: what its job in hand has still to send, and whether it has one
pub record Hand : Type 0 where
  pub left : List Sent
  pub busy : Bool

-- what the history makes of this worker
abbrev pub hand_after : Prog → RunOptions → List Entry → ℕ → Hand
hand_after x o h w = record { left = unposted x o w h; busy = is_busy w h }

-- the hands of the first so many workers
abbrev pub hands_after : Prog → RunOptions → List Entry → ℕ → List Hand
hands_after x o h count = map (hand_after x o h) (range_with_len 0 count)

-- how many entries a client has
abbrev pub gave : List Entry → ℕ → ℕ
gave h c = length (of (actor.Client c) h)

-- the orders of a client from this index on, as they are sent, its creates numbered on
abbrev pub orders_left : Prog → ℕ → List Entry → ℕ → List Sent
orders_left x c h index = orders_at (heads_of x) c index (creates c h)

-- what a course shows
pub record Course : Type 0 where
  pub world : State
  pub stations : List Stand
  pub workers : List Hand
  pub given : List ℕ

-- a run of a program so far: its world has the history of its choices, and each scheduler, worker and client is as far as that says
pub record IsRun (x : Prog) (o : RunOptions) (c : Course) : Type 0 where
  pub heads : c.world.heads ≡ heads_of x
  pub made : hist x o (map choice_of c.world.history) ≡ Ok c.world.history
  pub stations : c.stations ≡ stands_after x o c.world.history (length (heads_of x).schedulers)
  pub workers : c.workers ≡ hands_after x o c.world.history o.workers
  pub given : c.given ≡ map (gave c.world.history) (range_with_len 0 (length (heads_of x).clients))
  -- a client has still to give the orders after those that it has given
  pub orders : (k : ℕ) → unsent (heads_of x) k c.world.history ≡ orders_left x k c.world.history (gave c.world.history k)
  -- a worker has a job in hand exactly where something is left of it
  pub hands : (w : ℕ) → IsHand (heads_of x) (is_busy w c.world.history) (unposted x o w c.world.history)

-- what runs so far ask of a program: whatever has happened, what waits for each scheduler fits there, and the block of each thread
-- that waits for a worker comes to its end; and what a client of the source gives fits the one scheduler to which it goes
pub record CanRun (x : Prog) (o : RunOptions) : Type 0 where
  pub waiting : (choices : List Choice) (es : List Entry) → hist x o choices ≡ Ok es → (s : SchedId) → IsScheduler (heads_of x) s → All (Fits x s) (waiting (heads_of x) s es)
  pub blocks : (choices : List Choice) (es : List Entry) → hist x o choices ≡ Ok es → All (λ t. IsBlock (heads_of x) t.id (async x t o.limits.block)) (jobs es)
  pub clients : (c : ℕ) → Each (λ m. FitsOne x m.to m.order) (outside_of (heads_of x) c)
  pub few_schedulers : length (heads_of x).schedulers ≤ MAX_SCHEDULERS
  pub few_clients : length (heads_of x).clients ≤ MAX_CLIENTS
  pub few_workers : HasWorkers o

-- the history has gone on by the entry of a choice, where that is allowed, and is as before where it isn't
abbrev pub Moves : Prog → RunOptions → List Entry → Choice → Bool → List Entry → Type 0
Moves x o before choice moved after = MatchOption (entry_of x o before choice)
    ((moved ≡ false) × (after ≡ before))
    (λ e. (moved ≡ true) × (after ≡ before ++ e ∷ []))

-- ---- the end

-- these are the notes, and so it stands between two instants
abbrev pub IsLast : Stand → List InstantNote → FinalState → Type 0
IsLast s notes last = (notes ≡ s.notes) × (last ≡ stand_of s.machine)

-- a program without declarations
abbrev pub no_program : Prog
no_program = Code (record { heads = record { schedulers = []; events = []; shared = []; modules = []; starts = []; clients = []; items = [] }; modules = [] })

abbrev pub no_options : RunOptions
no_options = record { limits = record { instants = 1; budget = 1; block = 1 }; workers = 1 }
