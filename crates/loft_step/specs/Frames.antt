-- Frames that run by code, and what becomes of their thread.
use Rattle.std.specs.Prelude.{◌≡◌, ◌≢◌, ℕ, ◌+◌, ◌<◌, Bool, true, false, List, ◌∷◌, Option, Some, None, map, reverse}
use Rattle.loft_tree.specs.declared.heads.Heads.{Heads}
use Rattle.loft_code.specs.Operations.{Operation, Line, Automata, stop_of}
use Rattle.loft_orders.specs.declared.thread.Frame.{Frame}
use Rattle.loft_orders.specs.declared.thread.Wait.TheVariants.{New}
use Rattle.loft_sense.specs.Around.{Beside}
use Rattle.loft_sense.specs.Run.{Next, Control, Active, Outcome, Held, Left, active_of, thread_of, run_on, ends, step, going}
use Rattle.loft_sense.specs.Code.{Point, point, code, lines_at, next_operation}
use Rattle.loft_effect.specs.declared.effect.Effect.{Effect}
use Rattle.loft_effect.specs.declared.effect.Effect.TheVariants as effect
use Rattle.loft_effect.specs.declared.scope.Beside.{Beside as BesideInMemory}
use Rattle.loft_effect.specs.View.{beside_of, pace_of, steps_left}
use Rattle.loft_step.specs.declared.running.Running.{Running}
use Rattle.loft_step.specs.declared.step.Move.{Move}
use Rattle.loft_step.specs.declared.step.Move.TheVariants as move
use Rattle.loft_step.specs.Lines.{op_after}

-- ---- frames

-- a frame that runs
abbrev pub active : Running → Active Point
active r = record { «module» = r.scope.at.module; stop = r.scope.at.stop; values = r.scope.values; at = point r.op (reverse r.counts) }

-- frames that are kept, as they go on, the innermost first
abbrev pub actives : Automata → List Frame → List (Active Point)
actives c fs = map (active_of (code c)) (reverse fs)

-- the frame has stood at a stop, and goes on after it
pub record HasStopped (c : Automata) (r : Running) : Type 0 where
  pub stop : r.scope.at.stop ≢ 0
  pub after : op_after (lines_at c r.scope.at.module) r.scope.at.stop ≡ r.op

-- ---- steps

-- what becomes of the thread whose innermost frame is left as r, over the frames rs
abbrev pub advance : Move → Control Point → ℕ → (Beside → List (Active Point) → Outcome) → Active Point → List (Active Point) → Beside → Outcome
advance move.Pause c left on r rs b = on b (r ∷ rs)
advance move.Return c left on r rs b = on b rs
advance (move.Enter m arguments) c left on r rs b = run_on c left on (Some arguments) m r rs b
advance (move.Hold wait) c left on r rs b = Held (thread_of c wait (r ∷ rs) b) b.around left
advance (move.Leave to) c left on r rs b = Left (thread_of c New (r ∷ rs) b) to b.around left
advance (move.End end) c left on r rs b = ends end b left

-- the same, or the frame just goes on
abbrev pub advance_if : Option Move → Control Point → ℕ → (Beside → List (Active Point) → Outcome) → Active Point → List (Active Point) → Beside → Outcome
advance_if None c left on r rs b = on b (r ∷ rs)
advance_if (Some m) c left on r rs b = advance m c left on r rs b

-- the move that is made, unless the frame just goes on
abbrev pub move_unless : Bool → Move → Option Move
move_unless true m = None
move_unless false m = Some m

-- what an effect makes of its thread
abbrev pub moved_by : Effect → Option Move
moved_by effect.GoesOn = None
moved_by (effect.Waits wait) = Some (move.Hold wait)
moved_by (effect.Leaves to) = Some (move.Leave to)
moved_by (effect.Dies end) = Some (move.End end)

-- code with these declarations
abbrev pub code_with : Heads → List (List Line) → Automata
code_with h modules = record { heads = h; modules = modules }

-- in all code with these declarations the step leaves the frame `old` as `new`, and b as b', over any other frames
abbrev pub Steps : Heads → Next Point → Running → BesideInMemory → Option Move → Running → BesideInMemory → Type 0
Steps h next old b move new b' =
    (modules : List (List Line)) (left : ℕ) (on : Beside → List (Active Point) → Outcome) (at : Point) (rs : List (Active Point))
    → step (code (code_with h modules)) left on next (record (active old) { at = at }) rs (beside_of b)
    ≡ advance_if move (code (code_with h modules)) left on (active new) rs (beside_of b')

-- where operation p enters a module, the frame stands at its stop, and goes on at the next operation
abbrev pub IfCalls : Option Move → Operation → ℕ → Running → Type 0
IfCalls None o p r = Unit {0}
IfCalls (Some move.Pause) o p r = Unit {0}
IfCalls (Some move.Return) o p r = Unit {0}
IfCalls (Some (move.Enter m arguments)) o p r = (stop_of o ≡ Some r.scope.at.stop) × (r.op ≡ p + 1)
IfCalls (Some (move.Hold wait)) o p r = Unit {0}
IfCalls (Some (move.Leave to)) o p r = Unit {0}
IfCalls (Some (move.End end)) o p r = Unit {0}

-- operation p of the frame's module makes its step
pub record Makes (h : Heads) (o : Operation) (p : ℕ) (old : Running) (b : BesideInMemory) (move : Option Move) (new : Running) (b' : BesideInMemory) : Type 0 where
  pub step : Steps h (next_operation o p (reverse old.counts)) old b move new b'
  pub pace : pace_of b'.around ≡ pace_of b.around
  pub «module» : new.scope.at.module ≡ old.scope.at.module
  pub caller : IfCalls move o p new

-- over any other frames, to go on with the frame `old` is to make this move of the frame `new`
abbrev pub Walks : Automata → Running → BesideInMemory → Move → Running → BesideInMemory → Type 0
Walks c old b move new b' =
    (rs : List (Active Point))
    → going (code c) (steps_left b.around) (beside_of b) (active old ∷ rs)
    ≡ advance move (code c) (steps_left b'.around) (going (code c) (steps_left b'.around)) (active new) rs (beside_of b')

-- where the run pauses, a step was made; where a module is entered, too, and the frame stands
abbrev pub IfEnters : Move → Automata → Running → BesideInMemory → BesideInMemory → Type 0
IfEnters move.Pause c r b b' = b.around.steps < b'.around.steps
IfEnters move.Return c r b b' = Unit {0}
IfEnters (move.Enter m arguments) c r b b' = HasStopped c r × (b.around.steps < b'.around.steps)
IfEnters (move.Hold wait) c r b b' = Unit {0}
IfEnters (move.Leave to) c r b b' = Unit {0}
IfEnters (move.End end) c r b b' = Unit {0}
