-- The events of an instant, and who waits for them as it closes.
use Rattle.std.proofs.Common.{◌≡◌, Bool, true, false, List, [], ◌∷◌, Option, Some, None, length, map, refl, ap, ◌∙◌}
use Rattle.std.specs.Prelude.{ℤ, if◌then◌else◌, nat_lt, ◌&&◌, ◌||◌, All, filter, is_some, option_map, unwrap_or}
use Rattle.std.specs.List.{AllByRecursion}
use Rattle.std.proofs.lemmas.List.Elements.{All-from_recursion, recursion_from_All}
use Rattle.loft_base.specs.declared.ids.EventId.{EventId}
use Rattle.loft_base.specs.declared.ids.SchedId.{SchedId}
use Rattle.loft_base.specs.declared.ids.ThreadId.{ThreadId}
use Rattle.loft_board.specs.Board.{Board, find, has, values}
use Rattle.loft_tree.specs.declared.heads.Heads.{Heads}
use Rattle.loft_base.specs.declared.options.Limits.{Limits}
use Rattle.loft_sense.specs.declared.limits.TheConstants.{MAX_LINKED}
use Rattle.loft_orders.specs.declared.note.Standing.{Standing}
use Rattle.loft_orders.specs.declared.order.Order.{Order}
use Rattle.loft_orders.specs.declared.order.Order.TheVariants as order
use Rattle.loft_orders.specs.declared.thread.Thread.{Thread}
use Rattle.loft_orders.specs.declared.thread.Wait.{Wait}
use Rattle.loft_orders.specs.declared.thread.Wait.TheVariants as wait
use Rattle.loft_sense.specs.Machine.{Prog, Mach}
use Rattle.loft_sense.specs.Around.{Around}
use Rattle.loft_sense.specs.CanGo.{count_of, has_any, ran_out, can_go, is_over}
use Rattle.loft_sense.specs.Passes.{Runner, is_ready}
use Rattle.loft_sense.specs.Apply.{Applied, is_linked, apply_order, apply}
use Rattle.loft_sense.specs.Instant.{runner_of, around_of, closed_wait, closed, stays, instant}
use Rattle.loft_sense.specs.LawWords.{KeepsEvents, events_in, instant_walk}
use Rattle.loft_sense.proofs.TellLemmas.{same_board, generated_board}
use Rattle.loft_sense.proofs.PassLemmas.{nobody_is_ready}

chosen_stays : (board : Board) (b : Bool) (v w : Applied) → KeepsEvents board v.board → KeepsEvents board w.board → KeepsEvents board (if b then v else w).board
chosen_stays board true v w p q = p
chosen_stays board false v w p q = q

-- an order of a batch leaves present what is present
pub order_stays : (h : Heads) (s : SchedId) (a : Applied) (o : Order) → KeepsEvents a.board (apply_order h s a o).board
order_stays h s a (order.Create t m args) = chosen_stays a.board (nat_lt (length a.linked) MAX_LINKED) _ _ (same_board a.board) (same_board a.board)
order_stays h s a (order.Arrive t) = same_board a.board
order_stays h s a (order.Stop t) = chosen_stays a.board (is_linked t a.linked) _ _ (same_board a.board) (same_board a.board)
order_stays h s a (order.Suspend t) = chosen_stays a.board (is_linked t a.linked) _ _ (same_board a.board) (same_board a.board)
order_stays h s a (order.Resume t) = chosen_stays a.board (is_linked t a.linked) _ _ (same_board a.board) (same_board a.board)
order_stays h s a (order.Broadcast event value) = generated_board event value a.board
order_stays h s a (order.Ended t end) = same_board a.board

-- ---- events by the counts of their values

present_some : (o : Option (List ℤ)) → is_some (option_map length o) ≡ is_some o
present_some None = refl
present_some (Some vs) = refl

-- an event is present where it has a count
pub present_counted : (e : EventId) (board : Board) → is_some (count_of board e) ≡ has e board
present_counted e board = present_some (find e board)

values_some : (o : Option (List ℤ)) → unwrap_or (option_map length o) 0 ≡ length (unwrap_or o [])
values_some None = refl
values_some (Some vs) = refl

-- an event has as many values as it counts, and none where it isn't present
pub values_counted : (e : EventId) (board : Board) → unwrap_or (count_of board e) 0 ≡ length (values e board)
values_counted e board = values_some (find e board)

-- ---- waits as an instant closes

no_event : (out any : Bool) → (out || any) ≡ false → any ≡ false
no_event true any e = absurd cc
no_event false any e = e

-- no event that a wait names is present where it isn't over, and the close leaves it so
unmet_wait : (w : Wait) (board : Board) (known : List ThreadId) → is_over w (count_of board) known ≡ false → has_any (events_in w) board ≡ false
unmet_wait wait.New board known e = absurd cc
unmet_wait (wait.Coop left) board known e = refl
unmet_wait (wait.Events events left) board known e = no_event (ran_out left) (has_any events board) e
unmet_wait (wait.Index event at) board known e = refl
unmet_wait wait.Next board known e = absurd cc
unmet_wait (wait.Join thread left) board known e = refl
unmet_wait wait.Halt board known e = refl

same_events : (w : Wait) → events_in (closed_wait w) ≡ events_in w
same_events wait.New = refl
same_events (wait.Coop left) = refl
same_events (wait.Events events left) = refl
same_events (wait.Index event at) = refl
same_events wait.Next = refl
same_events (wait.Join thread left) = refl
same_events wait.Halt = refl

-- where it isn't suspended, it waits for no event of this board
abbrev WaitsUnmet : Board → Standing → Type 0
WaitsUnmet board s = s.suspended ≡ false → has_any (events_in s.thread.wait) board ≡ false

closed_unmet : (board : Board) (known : List ThreadId) (t : Thread) (suspended : Bool) → can_go t.wait suspended board known ≡ false
    → suspended ≡ false → has_any (events_in (if suspended then t else record t { wait = closed_wait t.wait }).wait) board ≡ false
closed_unmet board known t true idle e = absurd cc
closed_unmet board known t false idle e = ap (λ (events : List EventId). has_any events board) (same_events t.wait) ∙ unmet_wait t.wait board known idle

-- the threads that stay of those of whom nobody is ready
staying : (board : Board) (known : List ThreadId) (r : Runner) (rest : List Runner) (stay : Bool) → (stay && can_go r.thread.wait r.suspended board known) ≡ false
    → AllByRecursion (WaitsUnmet board) (map closed rest) → AllByRecursion (WaitsUnmet board) (map closed (if stay then r ∷ rest else rest))
staying board known r rest true idle h = (closed_unmet board known r.thread r.suspended idle, h)
staying board known r rest false idle h = h

all_unmet : (around : Around) (rs : List Runner) → AllByRecursion (λ r. is_ready r around ≡ false) rs → AllByRecursion (WaitsUnmet around.board) (map closed (filter stays rs))
all_unmet around [] h = tt
all_unmet around (r ∷ rs) h = staying around.board around.known r (filter stays rs) (stays r) h.0 (all_unmet around rs h.1)

-- no linked thread of the machine after an instant that isn't suspended waits for an event that was present
pub instant_unmet : (x : Prog) (limits : Limits) (m : Mach) (batch : List Order) → All (WaitsUnmet (instant_walk x limits m batch).around.board) (instant x limits m batch).machine.linked
unfolding instant
instant_unmet x limits m batch =
    let w = instant_walk x limits m batch in
    let a = apply x m batch in
    let idle = recursion_from_All (λ (r : Runner). is_ready r w.around ≡ false) w.runners (nobody_is_ready x (map (runner_of limits.budget) a.linked) (around_of m a)) in
    All-from_recursion (WaitsUnmet w.around.board) (map closed (filter stays w.runners)) (all_unmet w.around w.runners idle)
