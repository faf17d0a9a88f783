-- Words of the laws of runs, passes and instants (docs/SEMANTICS.md, "Run" and "Passes").
use Rattle.std.specs.Prelude.{◌≡◌, ℤ, Bool, true, false, IsTrue, List, [], ◌∷◌, ◌++◌, Option, map}
use Rattle.loft_base.specs.declared.ids.EventId.{EventId}
use Rattle.loft_base.specs.declared.ids.ThreadId.{ThreadId}
use Rattle.loft_board.specs.Board.{Board, has, values as event_values, generate_all}
use Rattle.loft_orders.specs.declared.thread.Wait.{Wait}
use Rattle.loft_orders.specs.declared.thread.Wait.TheVariants as wait
use Rattle.loft_orders.specs.declared.note.Act.{Act}
use Rattle.loft_orders.specs.declared.note.Act.TheVariants.{Gen, End}
use Rattle.loft_base.specs.declared.options.Limits.{Limits}
use Rattle.loft_orders.specs.declared.order.Order.{Order}
use Rattle.loft_sense.specs.Machine.{Prog, Mach}
use Rattle.loft_sense.specs.Around.{Around}
use Rattle.loft_sense.specs.Passes.{Walk, passes}
use Rattle.loft_sense.specs.Apply.{apply}
use Rattle.loft_sense.specs.Instant.{runner_of, around_of}

-- an entry of the instant: every act but an end
abbrev pub is_entry : Act → Bool
is_entry (End t end) = false
is_entry act = true

-- the events that acts generated, each with its value where there is one
abbrev pub generated_in : List Act → List (EventId × Option ℤ)
generated_in [] = []
generated_in (Gen t event value ∷ acts) = (event, value) ∷ generated_in acts
generated_in (act ∷ acts) = generated_in acts

-- the threads whose ends are among acts
abbrev pub ended_in : List Act → List ThreadId
ended_in [] = []
ended_in (End t end ∷ acts) = t ∷ ended_in acts
ended_in (act ∷ acts) = ended_in acts

-- What was done after a tells of b: the acts of b are those of a and more, its board is that of a with the events that these
-- generated, and the threads known in it are those of a and those whose ends are among these.
pub record Tells (a b : Around) : Type 0 where
  pub more : List Act
  pub acts : b.acts ≡ a.acts ++ more
  pub board : b.board ≡ generate_all (generated_in more) a.board
  pub known : b.known ≡ a.known ++ ended_in more

-- each event of a board is present on a later one too, with its values as the first ones
pub record KeepsEvents (board later : Board) : Type 0 where
  pub present : (e : EventId) → IsTrue (has e board) → IsTrue (has e later)
  pub values : (e : EventId) → (more : List ℤ) × (event_values e later ≡ event_values e board ++ more)

-- the events that a wait names
abbrev pub events_in : Wait → List EventId
events_in (wait.Events events left) = events
events_in w = []

-- what the passes of an instant leave
abbrev pub instant_walk : Prog → Limits → Mach → List Order → Walk
instant_walk x limits m batch =
    let a = apply x m batch in
    passes x (map (runner_of limits.budget) a.linked) (around_of m a)
