-- Words of the laws of codes and waits (docs/SEMANTICS.md, "Statements").
use Rattle.std.specs.Prelude.{◌≡◌, ◌≢◌, ℤ, pos, ◌<ℤ◌, Bool, List, true, false, Option, Some, None}
use Rattle.std.specs.Option.{option_and_then}
use Rattle.loft_base.specs.declared.ids.Value.{Value}
use Rattle.loft_tree.specs.declared.heads.Heads.{Heads}
use Rattle.loft_tree.specs.Resolved.{Exp, Pause, Await, Get, Join}
use Rattle.loft_orders.specs.declared.thread.Wait.{Wait}
use Rattle.loft_orders.specs.declared.thread.Wait.TheVariants as wait
use Rattle.loft_sense.specs.Around.{Beside}
use Rattle.loft_sense.specs.Eval.{eval_if, number_if}

-- a stop that sets the code where it goes on
abbrev pub stop_sets_code : Pause → Bool
stop_sets_code (Await events limit) = true
stop_sets_code (Get event index target) = true
stop_sets_code (Join thread limit) = true
stop_sets_code pause = false

-- the limit of a stop, where it has one
abbrev pub limit_of : Pause → Option Exp
limit_of (Await events limit) = limit
limit_of (Join thread limit) = limit
limit_of pause = None

-- its number, where it has one
abbrev pub limit_number : Heads → Pause → List Value → Beside → Option ℤ
limit_number h pause values b = option_and_then number_if (eval_if h values b (limit_of pause))

-- a wait that sets the code as it ends
abbrev pub wait_sets_code : Wait → Bool
wait_sets_code wait.New = false
wait_sets_code (wait.Coop left) = false
wait_sets_code wait.Halt = false
wait_sets_code w = true

-- the number left in a wait, where it has one
abbrev pub number_left : Wait → Option ℤ
number_left (wait.Coop left) = Some left
number_left (wait.Events events left) = left
number_left (wait.Join thread left) = left
number_left w = None

-- a wait that only what it waits for can end in this instant: it isn't marked, and where it has a number, an instant is left
pub record IsPending (w : Wait) : Type 0 where
  pub unmarked : w ≢ wait.Next
  pub instants : (n : ℤ) → number_left w ≡ Some n → pos 0 <ℤ n
