-- Code: the operations of each module of a program (docs/CODE.md, "Operations"). What statements do is said of the same
-- actions and pauses as for source trees.
use Rattle.std.specs.Prelude.{ℕ, ◌+◌, ◌-◌, Bool, true, false, List, [], ◌∷◌, Option, Some, None}
use Rattle.loft_base.specs.declared.ids.ModuleId.{ModuleId}
use Rattle.loft_tree.specs.declared.heads.Place.{Place}
use Rattle.loft_tree.specs.declared.heads.Heads.{Heads}
use Rattle.loft_tree.specs.Resolved.{Exp, Action, Pause}
use Rattle.loft_code.specs.declared.ways.Way.{Way}

pub data Operation : Type 0 where
  Do : (action : Action) → Operation
  -- a stop bears its number
  Hold : (stop : ℕ) (pause : Pause) → Operation
  -- `run`
  Call : (stop : ℕ) («module» : ModuleId) (arguments : List Exp) → Operation
  -- `branch`, `turn` and `jump` name another operation of their module by its number
  Branch : (target : ℕ) (test : Exp) → Operation
  Enter : Operation
  Count : (count : Exp) → Operation
  Turn : (target : ℕ) → Operation
  Jump : (target : ℕ) → Operation
  End : Operation

-- an operation, where the thread is linked as it begins, and how many counts of `repeat`s are active then
pub record Line : Type 0 where
  pub place : Place
  pub depth : ℕ
  pub operation : Operation

-- what a program declares, and for each of its modules the operations, numbered from 0
pub record Automata : Type 0 where
  pub heads : Heads
  pub modules : List (List Line)

-- ---- where an operation goes on

-- an operation by its number, and how many counts are active there
abbrev pub way : ℕ → ℕ → Way
way at depth = record { at = at; depth = depth }

-- The operations at which operation p goes on where d counts are active: `count` adds one, and `turn` drops the last one where it goes to its target.
abbrev pub goes_on_at : Operation → ℕ → ℕ → List Way
goes_on_at (Branch t test) p d = way (p + 1) d ∷ way t d ∷ []
goes_on_at (Count e) p d = way (p + 1) (d + 1) ∷ []
goes_on_at (Turn t) p d = way (p + 1) d ∷ way t (d - 1) ∷ []
goes_on_at (Jump t) p d = way t d ∷ []
goes_on_at End p d = []
goes_on_at operation p d = way (p + 1) d ∷ []

-- ---- kinds of operations

abbrev pub is_test : Operation → Bool
is_test (Branch t test) = true
is_test (Turn t) = true
is_test operation = false

abbrev pub is_end : Operation → Bool
is_end End = true
is_end operation = false

abbrev pub is_turn : Operation → Bool
is_turn (Turn t) = true
is_turn operation = false

-- it may be the last of a module: it doesn't go on at the next one
abbrev pub is_last : Operation → Bool
is_last (Jump t) = true
is_last End = true
is_last operation = false

-- the number of a stop
abbrev pub stop_of : Operation → Option ℕ
stop_of (Hold k pause) = Some k
stop_of (Call k m arguments) = Some k
stop_of operation = None
