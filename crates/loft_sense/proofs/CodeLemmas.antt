-- The codes that stops and waits set.
use Rattle.std.proofs.Common.{◌≡◌, ◌⊎◌, inl, inr, ℕ, zero, suc, Bool, true, false, List, Option, Some, None, refl, ◌∙◌, ap, subst, length, arith}
use Rattle.std.specs.Prelude.{ℤ, pos, negsuc, ◌≤ℤ◌, ◌<ℤ◌, nat_lt, int_le, int_lt, if◌then◌else◌, ◌-ℤ◌}
use Rattle.std.proofs.lemmas.Grind.{common_steps}
use Rattle.std.specs.Option.{option_and_then, option_map}
use Rattle.loft_base.specs.declared.ids.EventId.{EventId}
use Rattle.loft_base.specs.declared.ids.Value.{Value}
use Rattle.loft_board.specs.Board.{values as event_values}
use Rattle.loft_tree.specs.declared.heads.Heads.{Heads}
use Rattle.loft_tree.specs.Resolved.{Target, ToSlot, ToShared, Action, Assign, Make, PrintText, PrintValue, Generate, ControlThread, Broadcast, Pause, Cooperate, Await, Get, Join, Link, Unlink, Halt}
use Rattle.loft_orders.specs.declared.order.At.{At}
use Rattle.loft_orders.specs.declared.order.End.{End}
use Rattle.loft_orders.specs.declared.order.End.TheVariants.{Flood}
use Rattle.loft_orders.specs.declared.thread.Wait.{Wait}
use Rattle.loft_orders.specs.declared.thread.Wait.TheVariants as wait
use Rattle.loft_sense.specs.Around.{Beside}
use Rattle.loft_sense.specs.Eval.{eval, eval_all, eval_if, number_of, number_if, thread_or}
use Rattle.loft_sense.specs.CanGo.{has_any, is_index, is_known, is_zero}
use Rattle.loft_sense.specs.Statements.{Effect, GoesOn, Waits, Leaves, Dies, Now, if_value, goes_on, code_ok, code_timeout, code_next, is_up, hold, set_if, with_code, code_after, target_of, most_entries, did, begun, answered}
use Rattle.loft_sense.specs.Instant.{lowered, closed_wait}
use Rattle.loft_sense.specs.WaitCodes.{stop_sets_code, limit_number, wait_sets_code, number_left, IsPending}

-- ---- stops as they begin

-- the code of a stop that goes on, whose limit is this
abbrev pub IsCode : Option ℤ → ℤ → Type 0
IsCode limit code = (code ≡ code_ok) ⊎ ((code ≡ code_timeout) × ((n : ℤ) × ((limit ≡ Some n) × (n ≤ℤ pos 0))))

at_most : (n : ℤ) → int_le n (pos 0) ≡ true → n ≤ℤ pos 0
at_most n h = grind (arith, common_steps)

-- a stop goes on with TIMEOUT where its limit is up
late : (limit : Option ℤ) → is_up limit ≡ true → IsCode limit code_timeout
late None up = absurd cc
late (Some n) up = inr (refl, (n, (refl, at_most n up)))

abbrev Sets : Option ℤ → Effect → Type 0
Sets limit (GoesOn now) = IsCode limit now.beside.code
Sets limit (Waits w) = Unit {0}
Sets limit (Leaves to) = Unit {0}
Sets limit (Dies end) = Unit {0}

sets_limited : (v : Option (Option Value)) (at : At) (act_on : Option Value → Effect) → ((w : Option Value) → Sets (number_if w) (act_on w)) → Sets (option_and_then number_if v) (if_value v at act_on)
sets_limited None at act_on h = tt
sets_limited (Some v) at act_on h = h v

sets_value : (limit : Option ℤ) (v : Option Value) (at : At) (act_on : Value → Effect) → ((w : Value) → Sets limit (act_on w)) → Sets limit (if_value v at act_on)
sets_value limit None at act_on h = tt
sets_value limit (Some v) at act_on h = h v

sets_hold : (limit : Option ℤ) (is_there up : Bool) (there late waits : Effect) → Sets limit there → (up ≡ true → Sets limit late) → Sets limit waits → Sets limit (hold is_there up there late waits)
sets_hold limit true up there late waits p q r = p
sets_hold limit false true there late waits p q r = q refl
sets_hold limit false false there late waits p q r = r

set_code : (h : Heads) (target : Option Target) (v : Value) (values : List Value) (b : Beside) → (set_if h target v values b).beside.code ≡ b.code
set_code h None v values b = refl
set_code h (Some (ToSlot k)) v values b = refl
set_code h (Some (ToShared x)) v values b = refl

sets_get : (is_there : Bool) (now : Now) (event : EventId) (i : ℤ) → now.beside.code ≡ code_ok → Sets None (if is_there then GoesOn now else Waits (wait.Index event i))
sets_get true now event i e = inl e
sets_get false now event i e = tt

begun_sets : (h : Heads) (pause : Pause) (at : At) (values : List Value) (b : Beside) → stop_sets_code pause ≡ true → Sets (limit_number h pause values b) (begun h pause at values b)
begun_sets h (Cooperate instants) at values b s = absurd cc
begun_sets h (Await events limit) at values b s =
    sets_limited (eval_if h values b limit) at _ (λ v.
    sets_hold (number_if v) (has_any events b.around.board) (is_up (number_if v)) _ _ _ (inl refl) (late (number_if v)) tt)
begun_sets h (Get event index target) at values b s =
    sets_value None (eval h values b index) at _ (λ i.
    sets_get (is_index (number_of i) (length (event_values event b.around.board))) _ event (number_of i) (set_code h (Some target) _ values (with_code code_ok b)))
begun_sets h (Join thread limit) at values b s =
    sets_value (limit_number h (Join thread limit) values b) (eval h values b thread) at _ (λ t.
    sets_limited (eval_if h values b limit) at _ (λ v.
    sets_hold (number_if v) (is_known (thread_or b.id t) b.around.known) (is_up (number_if v)) _ _ _ (inl refl) (late (number_if v)) tt))
begun_sets h (Link to) at values b s = absurd cc
begun_sets h Unlink at values b s = absurd cc
begun_sets h Halt at values b s = absurd cc

-- a stop that sets the code, and goes on
pub begun_code : (h : Heads) (pause : Pause) (at : At) (values : List Value) (b : Beside) (now : Now) → begun h pause at values b ≡ GoesOn now → stop_sets_code pause ≡ true → IsCode (limit_number h pause values b) now.beside.code
begun_code h pause at values b now e s = subst (Sets (limit_number h pause values b)) e (begun_sets h pause at values b s)

abbrev KeepsCode : ℤ → Effect → Type 0
KeepsCode code (GoesOn now) = now.beside.code ≡ code
KeepsCode code (Waits w) = Unit {0}
KeepsCode code (Leaves to) = Unit {0}
KeepsCode code (Dies end) = Unit {0}

keeps_up : (values : List Value) (b : Beside) (up : Bool) (n : ℤ) → KeepsCode b.code (if up then goes_on values b else Waits (wait.Coop n))
keeps_up values b true n = refl
keeps_up values b false n = tt

keeps_value : {A : Type 0} (code : ℤ) (v : Option A) (at : At) (act_on : A → Effect) → ((w : A) → KeepsCode code (act_on w)) → KeepsCode code (if_value v at act_on)
keeps_value code None at act_on h = tt
keeps_value code (Some v) at act_on h = h v

begun_keeps : (h : Heads) (pause : Pause) (at : At) (values : List Value) (b : Beside) → stop_sets_code pause ≡ false → KeepsCode b.code (begun h pause at values b)
begun_keeps h (Cooperate None) at values b s = tt
begun_keeps h (Cooperate (Some e)) at values b s = keeps_value b.code (eval h values b e) at _ (λ v. keeps_up values b (is_up (Some (number_of v))) (number_of v))
begun_keeps h (Await events limit) at values b s = absurd cc
begun_keeps h (Get event index target) at values b s = absurd cc
begun_keeps h (Join thread limit) at values b s = absurd cc
begun_keeps h (Link to) at values b s = tt
begun_keeps h Unlink at values b s = tt
begun_keeps h Halt at values b s = tt

keeps_room : (code : ℤ) (room : Bool) (effect : Effect) (end : End) → KeepsCode code effect → KeepsCode code (if room then effect else Dies end)
keeps_room code true effect end p = p
keeps_room code false effect end p = tt

-- an entry, where there is room for one more
keeps_entry : (b : Beside) (effect : Effect) (end : End) → KeepsCode b.code effect → KeepsCode b.code (if nat_lt b.around.entries (most_entries b.around.place) then effect else Dies end)
keeps_entry b effect end p = keeps_room b.code (nat_lt b.around.entries (most_entries b.around.place)) effect end p

did_keeps : (h : Heads) (action : Action) (at : At) (values : List Value) (b : Beside) → KeepsCode b.code (did h action at values b)
did_keeps h (Assign target e) at values b = keeps_value b.code (eval h values b e) at _ (λ v. set_code h (Some target) v values b)
did_keeps h (Make target s m arguments) at values b = keeps_value b.code (eval_all h values b arguments) at _ (λ args. keeps_entry b _ (Flood at) (set_code h target _ values _))
did_keeps h (PrintText line e) at values b = keeps_value b.code (eval_if h values b e) at _ (λ v. keeps_entry b _ (Flood at) refl)
did_keeps h (PrintValue e) at values b = keeps_value b.code (eval h values b e) at _ (λ v. keeps_entry b _ (Flood at) refl)
did_keeps h (Generate event e) at values b = keeps_value b.code (eval_if h values b e) at _ (λ v. keeps_entry b _ (Flood at) refl)
did_keeps h (ControlThread control e s) at values b = keeps_value b.code (eval h values b e) at _ (λ v. keeps_entry b _ (Flood at) refl)
did_keeps h (Broadcast event e) at values b = keeps_value b.code (eval_if h values b e) at _ (λ v. keeps_entry b _ (Flood at) refl)

-- an action leaves the code
pub did_same_code : (h : Heads) (action : Action) (at : At) (values : List Value) (b : Beside) (now : Now) → did h action at values b ≡ GoesOn now → now.beside.code ≡ b.code
did_same_code h action at values b now e = subst (KeepsCode b.code) e (did_keeps h action at values b)

pub begun_same_code : (h : Heads) (pause : Pause) (at : At) (values : List Value) (b : Beside) (now : Now) → begun h pause at values b ≡ GoesOn now → stop_sets_code pause ≡ false → now.beside.code ≡ b.code
begun_same_code h pause at values b now e s = subst (KeepsCode b.code) e (begun_keeps h pause at values b s)

-- ---- waits as they end

zero_left : (n : ℤ) → is_zero n ≡ true → n ≡ pos 0
zero_left (pos n) e = let h : n ≡ 0 = grind (arith, common_steps) in ap (λ (k : ℕ). pos k) h
zero_left (negsuc n) e = absurd cc

-- the code of a wait that ends
abbrev pub IsAnswer : Wait → ℤ → Type 0
IsAnswer w code = (code ≡ code_ok) ⊎ (((code ≡ code_timeout) × (number_left w ≡ Some (pos 0))) ⊎ ((code ≡ code_next) × (w ≡ wait.Next)))

answer_left : (w : Wait) (left : Option ℤ) → number_left w ≡ left → IsAnswer w (code_after left)
answer_left w None e = inl refl
answer_left w (Some n) e = by (is_zero n) refl
  where
    by : (z : Bool) → is_zero n ≡ z → IsAnswer w (if z then code_timeout else code_ok)
    by true z = inr (inl (refl, e ∙ ap (λ (k : ℤ). Some k) (zero_left n z)))
    by false z = inl refl

pub answered_code : (h : Heads) (pause : Option Pause) (w : Wait) (values : List Value) (b : Beside) → wait_sets_code w ≡ true → IsAnswer w (answered h pause w values b).beside.code
answered_code h pause wait.New values b s = absurd cc
answered_code h pause (wait.Coop left) values b s = absurd cc
answered_code h pause (wait.Events events left) values b s = answer_left (wait.Events events left) left refl
answered_code h pause (wait.Index event i) values b s = inl (set_code h (target_of pause) _ values (with_code code_ok b))
answered_code h pause wait.Next values b s = inr (inr (refl, refl))
answered_code h pause (wait.Join thread left) values b s = answer_left (wait.Join thread left) left refl
answered_code h pause wait.Halt values b s = absurd cc

pub answered_same_code : (h : Heads) (pause : Option Pause) (w : Wait) (values : List Value) (b : Beside) → wait_sets_code w ≡ false → (answered h pause w values b).beside.code ≡ b.code
answered_same_code h pause wait.New values b s = refl
answered_same_code h pause (wait.Coop left) values b s = refl
answered_same_code h pause (wait.Events events left) values b s = absurd cc
answered_same_code h pause (wait.Index event i) values b s = absurd cc
answered_same_code h pause wait.Next values b s = absurd cc
answered_same_code h pause (wait.Join thread left) values b s = absurd cc
answered_same_code h pause wait.Halt values b s = refl

not_above : pos 0 <ℤ pos 0 → ⊥
not_above h = grind arith

-- a wait that began in this instant answers OK
pub pending_code : (h : Heads) (pause : Option Pause) (w : Wait) (values : List Value) (b : Beside) → IsPending w → wait_sets_code w ≡ true → (answered h pause w values b).beside.code ≡ code_ok
pending_code h pause w values b p s = by (answered_code h pause w values b s)
  where
    by : IsAnswer w (answered h pause w values b).beside.code → (answered h pause w values b).beside.code ≡ code_ok
    by (inl e) = e
    by (inr (inl e)) = absurd (not_above (p.instants (pos 0) e.1))
    by (inr (inr e)) = absurd (p.unmarked e.1)

-- ---- waits as an instant closes

pub closed_marks : (w : Wait) → closed_wait w ≡ wait.Next → (w ≡ wait.Next) ⊎ ((event : EventId) × (at : ℤ) × (w ≡ wait.Index event at))
closed_marks wait.New e = absurd cc
closed_marks (wait.Coop left) e = absurd cc
closed_marks (wait.Events events left) e = absurd cc
closed_marks (wait.Index event i) e = inr (event, i, refl)
closed_marks wait.Next e = inl refl
closed_marks (wait.Join thread left) e = absurd cc
closed_marks wait.Halt e = absurd cc

pub closed_lowers : (w : Wait) → number_left (closed_wait w) ≡ option_map lowered (number_left w)
closed_lowers wait.New = refl
closed_lowers (wait.Coop left) = refl
closed_lowers (wait.Events events left) = refl
closed_lowers (wait.Index event i) = refl
closed_lowers wait.Next = refl
closed_lowers (wait.Join thread left) = refl
closed_lowers wait.Halt = refl

pub lowered_by_one : (n : ℤ) → lowered n ≡ (if int_lt (pos 0) n then n -ℤ pos 1 else n)
lowered_by_one (pos zero) = refl
lowered_by_one (pos (suc n)) = grind (arith, common_steps)
lowered_by_one (negsuc n) = refl
