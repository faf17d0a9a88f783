-- No statement ends its thread with Over, and a bare number counts as it stands.
use Rattle.std.proofs.Common.{◌≡◌, Bool, true, false, List, length, Option, Some, None, sym, ap}
use Rattle.std.specs.Prelude.{nat_lt, if◌then◌else◌}
use Rattle.loft_base.specs.declared.ids.Value.{Value}
use Rattle.loft_base.specs.declared.ids.Value.TheVariants.{Int}
use Rattle.loft_tree.specs.declared.heads.Heads.{Heads}
use Rattle.loft_tree.specs.Resolved.{Exp, Number, Slot, Shared, Special, Unary, Binary, Action, Assign, Make, PrintText, PrintValue, Generate, ControlThread, Broadcast, Pause, Cooperate, Await, Get, Join, Link, Unlink, Halt}
use Rattle.loft_orders.specs.declared.thread.Wait.{Wait}
use Rattle.loft_orders.specs.declared.thread.Wait.TheVariants as wait
use Rattle.loft_orders.specs.declared.order.At.{At}
use Rattle.loft_orders.specs.declared.order.End.{End}
use Rattle.loft_orders.specs.declared.order.End.TheVariants as end
use Rattle.loft_sense.specs.Around.{Beside}
use Rattle.loft_board.specs.Board.{values as event_values}
use Rattle.loft_sense.specs.CanGo.{has_any, is_index, is_known}
use Rattle.loft_sense.specs.Eval.{eval, eval_all, eval_if, number_of, number_if, thread_or}
use Rattle.loft_sense.specs.Statements.{Now, Effect, GoesOn, Waits, Leaves, Dies, if_value, if_room, most_entries, code_ok, code_timeout, goes_on, did, begun, hold, is_up, events_end, with_code, gotten}
use Rattle.loft_budget.proofs.WorkSteps.{IsCount}

abbrev pub IsNoOver : End → Type 0
IsNoOver (end.Over at) = ⊥
IsNoOver end = Unit {0}

-- it holds nobody, and lets nobody leave or end with Over
abbrev pub DoesWell : Effect → Type 0
DoesWell (GoesOn now) = Unit {0}
DoesWell (Waits w) = ⊥
DoesWell (Leaves to) = ⊥
DoesWell (Dies end) = IsNoOver end

-- it lets nobody end with Over
abbrev pub EndsWell : Effect → Type 0
EndsWell (GoesOn now) = Unit {0}
EndsWell (Waits w) = Unit {0}
EndsWell (Leaves to) = Unit {0}
EndsWell (Dies end) = IsNoOver end

record Does (effect : Effect) : Type 0 where
  is : DoesWell effect

record EndsSo (effect : Effect) : Type 0 where
  is : EndsWell effect

does_go : (now : Now) → Does (GoesOn now)
does_go now = record { is = tt }

does_value : {A : Type 0} (v : Option A) (at : At) (act_on : A → Effect) → ((a : A) → Does (act_on a)) → Does (if_value v at act_on)
does_value None at act_on h = record { is = tt }
does_value (Some a) at act_on h = h a

does_room : (b : Beside) (at : At) (effect : Effect) → Does effect → Does (if_room b at effect)
does_room b at effect f = by (nat_lt b.around.entries (most_entries b.around.place))
  where
    by : (room : Bool) → Does (if room then effect else Dies (end.Flood at))
    by true = f
    by false = record { is = tt }

does : (h : Heads) (action : Action) (at : At) (values : List Value) (b : Beside) → Does (did h action at values b)
does h (Assign target e) at values b = does_value (eval h values b e) at _ (λ v. does_go _)
does h (Make target s m arguments) at values b = does_value (eval_all h values b arguments) at _ (λ v. does_room b at _ (does_go _))
does h (PrintText line e) at values b = does_value (eval_if h values b e) at _ (λ v. does_room b at _ (does_go _))
does h (PrintValue e) at values b = does_value (eval h values b e) at _ (λ v. does_room b at _ (does_go _))
does h (Generate event e) at values b = does_value (eval_if h values b e) at _ (λ v. does_room b at _ (does_go _))
does h (ControlThread control e s) at values b = does_value (eval h values b e) at _ (λ v. does_room b at _ (does_go _))
does h (Broadcast event e) at values b = does_value (eval_if h values b e) at _ (λ v. does_room b at _ (does_go _))

pub does_well : (h : Heads) (action : Action) (at : At) (values : List Value) (b : Beside) → DoesWell (did h action at values b)
does_well h action at values b = (does h action at values b).is

so_goes : (now : Now) → EndsSo (GoesOn now)
so_goes now = record { is = tt }

so_waits : (w : Wait) → EndsSo (Waits w)
so_waits w = record { is = tt }

so_value : {A : Type 0} (v : Option A) (at : At) (act_on : A → Effect) → ((a : A) → EndsSo (act_on a)) → EndsSo (if_value v at act_on)
so_value None at act_on h = record { is = tt }
so_value (Some a) at act_on h = h a

so_either : (b : Bool) (v w : Effect) → EndsSo v → EndsSo w → EndsSo (if b then v else w)
so_either true v w f g = f
so_either false v w f g = g

so_held : (is_there up : Bool) (v w u : Effect) → EndsSo v → EndsSo w → EndsSo u → EndsSo (hold is_there up v w u)
so_held is_there up v w u f g h = so_either is_there v (if up then w else u) f (so_either up w u g h)

ends_so : (h : Heads) (pause : Pause) (at : At) (values : List Value) (b : Beside) → EndsSo (begun h pause at values b)
ends_so h (Cooperate None) at values b = so_waits _
ends_so h (Cooperate (Some e)) at values b =
    so_value (eval h values b e) at _ (λ v. so_either (is_up (Some (number_of v))) (goes_on values b) (Waits (wait.Coop (number_of v))) (so_goes _) (so_waits _))
ends_so h (Await events limit) at values b =
    so_value (eval_if h values b limit) at _ (λ v.
    so_held (has_any events b.around.board) (is_up (number_if v)) (goes_on values (events_end events code_ok b)) (goes_on values (events_end events code_timeout b)) (Waits (wait.Events events (number_if v))) (so_goes _) (so_goes _) (so_waits _))
ends_so h (Get event index target) at values b =
    so_value (eval h values b index) at _ (λ i.
    so_either (is_index (number_of i) (length (event_values event b.around.board))) (GoesOn (gotten h (Some target) event (number_of i) values b)) (Waits (wait.Index event (number_of i))) (so_goes _) (so_waits _))
ends_so h (Join thread limit) at values b =
    so_value (eval h values b thread) at _ (λ t. so_value (eval_if h values b limit) at _ (λ v.
    so_held (is_known (thread_or b.id t) b.around.known) (is_up (number_if v)) (goes_on values (with_code code_ok b)) (goes_on values (with_code code_timeout b)) (Waits (wait.Join (thread_or b.id t) (number_if v))) (so_goes _) (so_goes _) (so_waits _)))
ends_so h (Link s) at values b = record { is = tt }
ends_so h Unlink at values b = record { is = tt }
ends_so h Halt at values b = so_waits _

pub ends_well : (h : Heads) (pause : Pause) (at : At) (values : List Value) (b : Beside) → EndsWell (begun h pause at values b)
ends_well h pause at values b = (ends_so h pause at values b).is

pub counted : (h : Heads) (values : List Value) (b : Beside) (count : Exp) (v : Value) → eval h values b count ≡ Some v → IsCount count (number_of v)
counted h values b (Number value) v e = let same : Int value ≡ v = cc in sym (ap number_of same)
counted h values b (Slot slot) v e = tt
counted h values b (Shared shared) v e = tt
counted h values b (Special builtin) v e = tt
counted h values b (Unary operator operand) v e = tt
counted h values b (Binary operator left right) v e = tt
