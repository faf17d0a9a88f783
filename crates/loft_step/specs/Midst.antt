-- Runs in their midst.
use Rattle.std.specs.Prelude.{ℕ, List, [], ◌∷◌}
use Rattle.loft_code.specs.Operations.{Automata}
use Rattle.loft_orders.specs.declared.note.Act.{Act}
use Rattle.loft_sense.specs.Around.{Beside}
use Rattle.loft_sense.specs.Run.{Outcome, going}
use Rattle.loft_sense.specs.Code.{code}
use Rattle.loft_effect.specs.declared.scope.Beside.{Beside as BesideInMemory}
use Rattle.loft_effect.specs.View.{beside_of, steps_left}
use Rattle.loft_effect.specs.Outcomes.{outcome_with}
use Rattle.loft_step.specs.declared.midst.Stack.{Stack}
use Rattle.loft_step.specs.declared.midst.Turn.{Turn}
use Rattle.loft_step.specs.declared.midst.Turn.TheVariants as turn
use Rattle.loft_step.specs.declared.midst.Paused.{Paused}
use Rattle.loft_step.specs.Frames.{active, actives}

-- what a run comes to that goes on with these frames
abbrev pub stack_with : Automata → Stack → BesideInMemory → Outcome
stack_with c s b = going (code c) (steps_left b.around) (beside_of b) (active s.top ∷ actives c s.outer)

abbrev pub turn_with : Automata → Turn → BesideInMemory → Outcome
turn_with c (turn.Goes s) b = stack_with c s b
turn_with c (turn.Stops o) b = outcome_with o b.around

-- this holds where the run goes on
abbrev pub IfGoes : Turn → Type 0 → Type 0
IfGoes (turn.Goes s) p = p
IfGoes (turn.Stops o) p = Unit {0}

-- what a paused run comes to in this code, with the acts so far
abbrev pub paused_outcome : Automata → Paused → Outcome
paused_outcome c p = stack_with c p.stack p.beside

-- how many steps a paused run may still make
abbrev pub paused_left : Paused → ℕ
paused_left p = steps_left p.beside.around

-- what a paused run did so far
abbrev pub acts_of : Paused → List Act
acts_of p = p.beside.around.acts

-- the same beside the frames of a thread that has done nothing so far
abbrev pub beside_anew : Beside → Beside
beside_anew b = record b { around = record b.around { acts = [] } }

-- what the run comes to as if it had done nothing so far
abbrev pub outcome_without_acts : Automata → Paused → Outcome
outcome_without_acts c p = going (code c) (steps_left p.beside.around) (beside_anew (beside_of p.beside)) (active p.stack.top ∷ actives c p.stack.outer)
