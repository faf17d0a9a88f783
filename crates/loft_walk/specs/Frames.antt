-- Frames that run, and what a step makes of their thread.
use Rattle.std.specs.Prelude.{◌≡◌, ℕ, suc, List, [], ◌∷◌, Option, Some, None, map, reverse}
use Rattle.loft_tree.specs.declared.heads.Heads.{Heads}
use Rattle.std.specs.Option.{option_map}
use Rattle.loft_tree.specs.declared.named.Target.{Target as TargetInMemory}
use Rattle.loft_tree.specs.Resolved.{Target, Body, Resolved, target_of as target_from}
use Rattle.loft_orders.specs.declared.thread.Wait.{Wait}
use Rattle.loft_orders.specs.declared.thread.Wait.TheVariants.{New}
use Rattle.loft_sense.specs.Around.{Beside}
use Rattle.loft_sense.specs.Run.{Next, Control, Active, Outcome, Held, Left, thread_of, run_on, ends, step, going, go_on}
use Rattle.loft_sense.specs.Tree.{Work, tree, pause_at}
use Rattle.loft_sense.specs.Statements.{target_of}
use Rattle.loft_effect.specs.declared.effect.Effect.{Effect as EffectInMemory}
use Rattle.loft_effect.specs.declared.effect.Effect.TheVariants as effect
use Rattle.loft_walk.specs.declared.running.Running.{Running}
use Rattle.loft_effect.specs.declared.scope.Beside.{Beside as BesideInMemory}
use Rattle.loft_walk.specs.declared.step.Move.{Move}
use Rattle.loft_walk.specs.declared.step.Move.TheVariants as move
use Rattle.loft_walk.specs.declared.work.Task.{Task}
use Rattle.loft_walk.specs.declared.stopping.Stopped.{Stopped}
use Rattle.loft_walk.specs.declared.stopping.Stopped.TheVariants as stopped
use Rattle.loft_effect.specs.View.{beside_of}
use Rattle.loft_walk.specs.Pieces.{work_of, work_of_task}

abbrev pub active : Running → Active (List Work)
active r = record { «module» = r.scope.at.module; stop = r.scope.at.stop; values = r.scope.values; at = work_of r.work.items }

-- the innermost first
abbrev pub actives : List Running → List (Active (List Work))
actives rs = map active (reverse rs)

-- the variable that the stop of the innermost frame sets, where it is a `get`
abbrev pub top_target : Resolved → List (Active (List Work)) → Option Target
top_target p [] = None
top_target p (r ∷ rs) = target_of (pause_at p r.module r.stop)

-- with a piece of work that was taken from its list
abbrev pub with_task : Task → Active (List Work) → Active (List Work)
with_task t r = record r { at = work_of_task t ∷ r.at }

-- the frames that go on, where this piece of work was taken from the innermost of them
abbrev pub live_of : Option Task → List (Active (List Work)) → List (Active (List Work))
live_of None rs = []
live_of (Some t) [] = []
live_of (Some t) (r ∷ rs) = with_task t r ∷ rs

-- what a step makes of the thread whose innermost frame it leaves as r, over the frames rs
abbrev pub advance : Move → Control (List Work) → ℕ → (Beside → List (Active (List Work)) → Outcome) → Active (List Work) → List (Active (List Work)) → Beside → Outcome
advance move.GoOn c left on r rs b = on b (r ∷ rs)
advance (move.Enter m arguments) c left on r rs b = run_on c left on (Some arguments) m r rs b
advance (move.Hold wait) c left on r rs b = Held (thread_of c wait (r ∷ rs) b) b.around left
advance (move.Leave to) c left on r rs b = Left (thread_of c New (r ∷ rs) b) to b.around left
advance (move.End end) c left on r rs b = ends end b left

-- a thread with these frames, innermost first, stops
abbrev pub stops : Stopped → Control (List Work) → ℕ → List (Active (List Work)) → Beside → Outcome
stops (stopped.Waits wait) c left rs b = Held (thread_of c wait rs b) b.around left
stops (stopped.Leaves to) c left rs b = Left (thread_of c New rs b) to b.around left
stops (stopped.Ends end) c left rs b = ends end b left

-- it stops, or goes on in at most so many further steps
abbrev pub goes_or_stops : Option Stopped → Control (List Work) → ℕ → Beside → List (Active (List Work)) → Outcome
goes_or_stops None c left b rs = going c left b rs
goes_or_stops (Some s) c left b rs = stops s c left rs b

-- a program with these heads
abbrev pub program_with : Heads → List Body → Resolved
program_with h bodies = record { heads = h; bodies = bodies }

-- in every program with these heads the step leaves the frame `old` as `new`, and b as b', over any other frames
abbrev pub Steps : Heads → Next (List Work) → Running → BesideInMemory → Move → Running → BesideInMemory → Type 0
Steps h next old b move new b' =
    (bodies : List Body) (left : ℕ) (on : Beside → List (Active (List Work)) → Outcome) (w : List Work) (rs : List (Active (List Work)))
    → step (tree (program_with h bodies)) left on next (record (active old) { at = w }) rs (beside_of b)
    ≡ advance move (tree (program_with h bodies)) left on (active new) rs (beside_of b')

-- what a statement makes of its thread
abbrev pub moved_by : EffectInMemory → Move
moved_by effect.GoesOn = move.GoOn
moved_by (effect.Waits wait) = move.Hold wait
moved_by (effect.Leaves to) = move.Leave to
moved_by (effect.Dies end) = move.End end

-- in every program with these heads, to go on with the old frames and this wait is to run with the new ones
abbrev pub Answers : Heads → Wait → Option TargetInMemory → List Running → BesideInMemory → List Running → BesideInMemory → Type 0
Answers h wait target old b new b' =
    (bodies : List Body) (left : ℕ) → option_map target_from target ≡ top_target (program_with h bodies) (actives old)
    → going (tree (program_with h bodies)) left (beside_of b') (actives new) ≡ go_on (tree (program_with h bodies)) (suc left) wait (beside_of b) (actives old)
