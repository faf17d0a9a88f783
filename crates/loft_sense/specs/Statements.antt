-- What statements do to the thread that runs them and around it (docs/SEMANTICS.md, "Statements"). Where the thread goes on
-- is said apart from it, in Tree.antt.
use Rattle.std.specs.Prelude.{ℕ, ◌+◌, ◌*◌, nat_lt, ℤ, pos, int_le, negsuc, Bool, false, List, [], ◌∷◌, ◌++◌, length, Option, Some, None, slice_get, slice_set, unwrap_or, if◌then◌else◌}
use Rattle.loft_base.specs.Arithmetic.{wrapped}
use Rattle.loft_base.specs.declared.ids.EventId.{EventId}
use Rattle.loft_base.specs.declared.ids.Maker.{Maker}
use Rattle.loft_base.specs.declared.ids.Maker.TheVariants as maker
use Rattle.loft_base.specs.declared.ids.ThreadId.{ThreadId}
use Rattle.loft_base.specs.declared.ids.Value.{Value}
use Rattle.loft_base.specs.declared.ids.Value.TheVariants.{Int, Thread}
use Rattle.loft_tree.specs.declared.kinds.Control.{Control}
use Rattle.loft_tree.specs.declared.kinds.Control.TheVariants as control
use Rattle.loft_tree.specs.declared.heads.Place.{Place}
use Rattle.loft_tree.specs.declared.heads.Place.TheVariants as place
use Rattle.loft_tree.specs.declared.heads.Heads.{Heads}
use Rattle.loft_tree.specs.Resolved.{Target, ToSlot, ToShared, Action, Assign, Make, PrintText, PrintValue, Generate, ControlThread, Broadcast, Pause, Cooperate, Await, Get, Join, Link, Unlink, Halt}
use Rattle.loft_board.specs.Board.{Board, has, values as event_values, generate}
use Rattle.loft_orders.specs.declared.thread.Wait.{Wait}
use Rattle.loft_orders.specs.declared.thread.Wait.TheVariants as wait
use Rattle.loft_orders.specs.declared.order.At.{At}
use Rattle.loft_orders.specs.declared.order.End.{End}
use Rattle.loft_orders.specs.declared.order.End.TheVariants.{Div, Flood}
use Rattle.loft_orders.specs.declared.order.Order.{Order}
use Rattle.loft_orders.specs.declared.order.Order.TheVariants as order
use Rattle.loft_orders.specs.declared.order.To.{To}
use Rattle.loft_orders.specs.declared.order.To.TheVariants as to
use Rattle.loft_orders.specs.declared.note.Act.{Act}
use Rattle.loft_orders.specs.declared.note.Act.TheVariants as act
use Rattle.loft_sense.specs.declared.limits.TheConstants.{MAX_ENTRIES, MAX_BLOCK_ENTRIES}
use Rattle.loft_sense.specs.Heads.{home, rank}
use Rattle.loft_sense.specs.Around.{Around, Beside, entered}
use Rattle.loft_sense.specs.Eval.{eval, eval_all, eval_if, number_of, number_if, thread_or}
use Rattle.loft_sense.specs.CanGo.{ran_out, has_any, is_index, is_known}
use Rattle.loft_orders.specs.Text.{value_text}

-- the codes of waits that have ended
abbrev pub code_ok : ℤ
code_ok = pos 0

abbrev pub code_timeout : ℤ
code_timeout = pos 1

abbrev pub code_next : ℤ
code_next = pos 2

-- the values of the running frame, and what stands beside the frames
pub record Now : Type 0 where
  pub values : List Value
  pub beside : Beside

-- what becomes of a thread by a statement
pub data Effect : Type 0 where
  -- it goes on at once
  GoesOn : (now : Now) → Effect
  Waits : (wait : Wait) → Effect
  Leaves : (to : To) → Effect
  Dies : (end : End) → Effect

abbrev pub now : List Value → Beside → Now
now values b = record { values = values; beside = b }

abbrev pub goes_on : List Value → Beside → Effect
goes_on values b = GoesOn (now values b)

-- ---- values that are set

abbrev pub with_shared : List ℤ → Beside → Beside
with_shared shared b = record b { around = record b.around { shared = shared } }

-- the variable has this value from now on
abbrev pub set : Heads → Target → Value → List Value → Beside → Now
set h (ToSlot k) v values b = now (slice_set values k v) b
set h (ToShared x) v values b = now values (with_shared (slice_set b.around.shared (rank h x) (number_of v)) b)

-- the same where there is a variable
abbrev pub set_if : Heads → Option Target → Value → List Value → Beside → Now
set_if h None v values b = now values b
set_if h (Some target) v values b = set h target v values b

-- ---- what every statement does first

-- with the value of its operands, which ends the thread where a divisor is 0
abbrev pub if_value : {A : Type 0} → Option A → At → (A → Effect) → Effect
if_value None here act_on = Dies (Div here)
if_value (Some v) here act_on = act_on v

-- how many entries an instant of a scheduler has at most, and an unlinked block
abbrev pub most_entries : Place → ℕ
most_entries (place.Sched s) = MAX_ENTRIES
most_entries place.Unlinked = MAX_BLOCK_ENTRIES

-- an entry of the instant, which ends the thread where the instant has its most already
abbrev pub if_room : Beside → At → Effect → Effect
if_room b here effect = if nat_lt b.around.entries (most_entries b.around.place) then effect else Dies (Flood here)

-- ---- statements that go on at once

abbrev pub enter : Act → Beside → Beside
enter a b = record b { around = entered a b.around }

abbrev pub send : To → Order → Beside → Beside
send to order b = enter (act.Out b.id (record { to = to; order = order })) b

-- a line is printed
abbrev pub printed : List ℕ → At → List Value → Beside → Effect
printed line here values b = if_room b here (goes_on values (enter (act.Print b.id line) b))

-- the text of a value that may be missing
abbrev pub text_if : Heads → Option Value → List ℕ
text_if h None = []
text_if h (Some v) = value_text h v

-- the event is present from now on, with one more value where there is one
abbrev pub generated : EventId → Option ℤ → At → List Value → Beside → Effect
generated e v here values b =
    if_room b here (goes_on values (enter (act.Gen b.id e v) (record b { around = record b.around { board = generate e v b.around.board } })))

-- a create is numbered by the creates that the thread's scheduler has sent so far
abbrev pub maker_at : Place → Maker
maker_at (place.Sched s) = maker.Sched s.0
maker_at place.Unlinked = maker.Source

abbrev pub new_id : Around → ThreadId
new_id around = record { maker = maker_at around.place; seq = around.made }

abbrev pub one_made : Around → Around
one_made around = record around { made = around.made + 1 }

-- the thread sends a create
abbrev pub create : To → Order → Beside → Beside
create to order b = record b { around = one_made (entered (act.Out b.id (record { to = to; order = order })) b.around) }

abbrev pub order_of : Control → ThreadId → Order
order_of control.Stop t = order.Stop t
order_of control.Suspend t = order.Suspend t
order_of control.Resume t = order.Resume t

-- what an action does in a frame with these values, at this stop
abbrev pub did : Heads → Action → At → List Value → Beside → Effect
did h (Assign target e) here values b =
    if_value (eval h values b e) here (λ v. GoesOn (set h target v values b))
did h (Make target s m arguments) here values b =
    if_value (eval_all h values b arguments) here (λ args.
    if_room b here (GoesOn (set_if h target (Thread (new_id b.around)) values (create (to.Sched s) (order.Create (new_id b.around) m args) b))))
did h (PrintText line e) here values b =
    if_value (eval_if h values b e) here (λ v. printed (line ++ text_if h v) here values b)
did h (PrintValue e) here values b =
    if_value (eval h values b e) here (λ v. printed (value_text h v) here values b)
did h (Generate event e) here values b =
    if_value (eval_if h values b e) here (λ v. generated event (number_if v) here values b)
did h (ControlThread control e s) here values b =
    if_value (eval h values b e) here (λ v. if_room b here (goes_on values (send (to.Sched s) (order_of control (thread_or b.id v)) b)))
did h (Broadcast event e) here values b =
    if_value (eval_if h values b e) here (λ v. if_room b here (goes_on values (send (to.Sched (home h event)) (order.Broadcast event (number_if v)) b)))

-- ---- stops

-- the first event counts 1 where it is present, and each further one twice as much as the one before it
abbrev pub mask_of : List EventId → Board → ℕ
mask_of [] board = 0
mask_of (e ∷ es) board = (if has e board then 1 else 0) + 2 * mask_of es board

-- Only a wait for two events or more sets the mask. It has at most 8, so nothing is wrapped.
abbrev pub mask_after : List EventId → Beside → ℤ
mask_after [] b = b.mask
mask_after (e ∷ []) b = b.mask
mask_after (e ∷ f ∷ es) b = wrapped (pos (mask_of (e ∷ f ∷ es) b.around.board))

abbrev pub with_code : ℤ → Beside → Beside
with_code code b = record b { code = code }

-- a wait for events ends
abbrev pub events_end : List EventId → ℤ → Beside → Beside
events_end events code b = record b { code = code; mask = mask_after events b }

-- no instant is left
abbrev pub is_up : Option ℤ → Bool
is_up None = false
is_up (Some n) = int_le n (pos 0)

-- what is waited for may be there already; else no instant may be left to wait; else the thread waits
abbrev pub hold : Bool → Bool → Effect → Effect → Effect → Effect
hold is_there up there late waits = if is_there then there else (if up then late else waits)

-- the value of an event with this index, where it is there
abbrev pub indexed : List ℤ → ℤ → ℤ
indexed vs (pos k) = unwrap_or (slice_get vs k) (pos 0)
indexed vs (negsuc k) = pos 0

-- the variable of a value wait is set
abbrev pub gotten : Heads → Option Target → EventId → ℤ → List Value → Beside → Now
gotten h target event i values b = set_if h target (Int (indexed (event_values event b.around.board) i)) values (with_code code_ok b)

-- a stop as it begins, in a frame with these values, whose stop it is by now
abbrev pub begun : Heads → Pause → At → List Value → Beside → Effect
begun h (Cooperate None) here values b = Waits (wait.Coop (pos 1))
begun h (Cooperate (Some e)) here values b =
    if_value (eval h values b e) here (λ v. if is_up (Some (number_of v)) then goes_on values b else Waits (wait.Coop (number_of v)))
begun h (Await events limit) here values b =
    if_value (eval_if h values b limit) here (λ v.
    hold (has_any events b.around.board) (is_up (number_if v))
    (goes_on values (events_end events code_ok b)) (goes_on values (events_end events code_timeout b)) (Waits (wait.Events events (number_if v))))
begun h (Get event index target) here values b =
    if_value (eval h values b index) here (λ i.
    if is_index (number_of i) (length (event_values event b.around.board))
    then GoesOn (gotten h (Some target) event (number_of i) values b)
    else Waits (wait.Index event (number_of i)))
begun h (Join thread limit) here values b =
    if_value (eval h values b thread) here (λ t.
    if_value (eval_if h values b limit) here (λ v.
    hold (is_known (thread_or b.id t) b.around.known) (is_up (number_if v))
    (goes_on values (with_code code_ok b)) (goes_on values (with_code code_timeout b)) (Waits (wait.Join (thread_or b.id t) (number_if v)))))
begun h (Link s) here values b = Leaves (to.Sched s)
begun h Unlink here values b = Leaves to.Workers
begun h Halt here values b = Waits wait.Halt

-- the code of a wait that ends: no instant may be left of it
abbrev pub code_after : Option ℤ → ℤ
code_after left = if ran_out left then code_timeout else code_ok

-- the variable that a stop sets, where it is a `get`
abbrev pub target_of : Option Pause → Option Target
target_of (Some (Get event index target)) = Some target
target_of pause = None

-- a wait ends, as its thread goes on after this stop
abbrev pub answered : Heads → Option Pause → Wait → List Value → Beside → Now
answered h pause wait.New values b = now values b
answered h pause (wait.Coop left) values b = now values b
answered h pause (wait.Events events left) values b = now values (events_end events (code_after left) b)
answered h pause (wait.Index event i) values b = gotten h (target_of pause) event i values b
answered h pause wait.Next values b = now values (with_code code_next b)
answered h pause (wait.Join thread left) values b = now values (with_code (code_after left) b)
answered h pause wait.Halt values b = now values b
