-- A run of a thread keeps its id.
use Rattle.std.proofs.Common.{◌≡◌, ℕ, zero, suc, ◌+◌, Bool, true, false, List, [], ◌∷◌, length, Option, Some, None, refl, sym, subst, ap, ◌∙◌}
use Rattle.std.specs.Prelude.{ℤ, pos, if◌then◌else◌, nat_lt}
use Rattle.loft_base.specs.declared.ids.ModuleId.{ModuleId}
use Rattle.loft_base.specs.declared.ids.ThreadId.{ThreadId}
use Rattle.loft_base.specs.declared.ids.EventId.{EventId}
use Rattle.loft_base.specs.declared.ids.Value.{Value}
use Rattle.loft_base.specs.declared.ids.Value.TheVariants.{Thread as ThreadValue}
use Rattle.loft_board.specs.Board.{values as event_values}
use Rattle.loft_tree.specs.declared.heads.Heads.{Heads}
use Rattle.loft_tree.specs.Resolved.{Target, ToSlot, ToShared, Action, Assign, Make, PrintText, PrintValue, Generate, ControlThread, Broadcast, Pause, Cooperate, Await, Get, Join, Link, Unlink, Halt}
use Rattle.loft_orders.specs.declared.thread.Thread.{Thread}
use Rattle.loft_orders.specs.declared.thread.Wait.{Wait}
use Rattle.loft_orders.specs.declared.thread.Wait.TheVariants as wait
use Rattle.loft_orders.specs.declared.order.At.{At}
use Rattle.loft_orders.specs.declared.order.End.TheVariants.{Flood}
use Rattle.loft_orders.specs.declared.order.To.TheVariants as to
use Rattle.loft_orders.specs.declared.order.Order.TheVariants as order
use Rattle.loft_sense.specs.declared.limits.TheConstants.{MAX_FRAMES}
use Rattle.loft_sense.specs.Machine.{Prog, Tree, Code}
use Rattle.loft_sense.specs.Around.{Around, Beside}
use Rattle.loft_sense.specs.Eval.{eval, eval_all, eval_if, number_of, number_if, thread_or}
use Rattle.loft_sense.specs.CanGo.{has_any, is_index, is_known}
use Rattle.loft_sense.specs.Statements.{Effect, GoesOn, Waits, Leaves, Dies, Now, if_value, goes_on, most_entries, new_id, create, is_up, hold, set_if, with_code, target_of, did, begun, answered}
use Rattle.loft_sense.specs.Run.{Next, Finish, Stuck, Acts, Advances, Tests, Counts, Holds, Runs, Control, Active, Outcome, Held, Left, Ended, live, effect_on, test_on, count_on, run_on, begun_frame, here, stopped, step, step_on, no_step, going, go_on, go, beside, actives_of}
use Rattle.loft_sense.specs.Tree.{tree}
use Rattle.loft_sense.specs.Code.{code}
use Rattle.loft_sense.specs.Passes.{Runner as Linked, run_of, runners_after}

-- ---- statements

abbrev EffectKeeps : Beside → Effect → Type 0
EffectKeeps b (GoesOn now) = now.beside.id ≡ b.id
EffectKeeps b (Waits w) = Unit {0}
EffectKeeps b (Leaves to) = Unit {0}
EffectKeeps b (Dies end) = Unit {0}

by_value : {A : Type 0} (b : Beside) (v : Option A) (at : At) (act_on : A → Effect) → ((w : A) → EffectKeeps b (act_on w)) → EffectKeeps b (if_value v at act_on)
by_value b None at act_on h = tt
by_value b (Some v) at act_on h = h v

by_room : (b : Beside) (room : Bool) (effect : Effect) (at : At) → EffectKeeps b effect → EffectKeeps b (if room then effect else Dies (Flood at))
by_room b true effect at h = h
by_room b false effect at h = tt

by_hold : (b : Beside) (is_there up : Bool) (there late waits : Effect) → EffectKeeps b there → EffectKeeps b late → EffectKeeps b waits → EffectKeeps b (hold is_there up there late waits)
by_hold b true up there late waits p q r = p
by_hold b false true there late waits p q r = q
by_hold b false false there late waits p q r = r

set_keeps : (h : Heads) (target : Option Target) (v : Value) (values : List Value) (b : Beside) → (set_if h target v values b).beside.id ≡ b.id
set_keeps h None v values b = refl
set_keeps h (Some (ToSlot k)) v values b = refl
set_keeps h (Some (ToShared x)) v values b = refl

did_keeps : (h : Heads) (action : Action) (at : At) (values : List Value) (b : Beside) → EffectKeeps b (did h action at values b)
did_keeps h (Assign target e) at values b = by_value b (eval h values b e) at _ (λ v. set_keeps h (Some target) v values b)
did_keeps h (Make target s m arguments) at values b =
    by_value b (eval_all h values b arguments) at _ (λ args.
    let sent = create (to.Sched s) (order.Create (new_id b.around) m args) b in
    by_room b (nat_lt b.around.entries (most_entries b.around.place)) _ at (set_keeps h target (ThreadValue (new_id b.around)) values sent))
did_keeps h (PrintText line e) at values b = by_value b (eval_if h values b e) at _ (λ v. by_room b (nat_lt b.around.entries (most_entries b.around.place)) _ at refl)
did_keeps h (PrintValue e) at values b = by_value b (eval h values b e) at _ (λ v. by_room b (nat_lt b.around.entries (most_entries b.around.place)) _ at refl)
did_keeps h (Generate event e) at values b = by_value b (eval_if h values b e) at _ (λ v. by_room b (nat_lt b.around.entries (most_entries b.around.place)) _ at refl)
did_keeps h (ControlThread control e s) at values b = by_value b (eval h values b e) at _ (λ v. by_room b (nat_lt b.around.entries (most_entries b.around.place)) _ at refl)
did_keeps h (Broadcast event e) at values b = by_value b (eval_if h values b e) at _ (λ v. by_room b (nat_lt b.around.entries (most_entries b.around.place)) _ at refl)

begun_up : (values : List Value) (b : Beside) (n : ℤ) (up : Bool) → EffectKeeps b (if up then goes_on values b else Waits (wait.Coop n))
begun_up values b n true = refl
begun_up values b n false = tt

begun_get : (b : Beside) (is_there : Bool) (now : Now) (event : EventId) (i : ℤ) → now.beside.id ≡ b.id → EffectKeeps b (if is_there then GoesOn now else Waits (wait.Index event i))
begun_get b true now event i p = p
begun_get b false now event i p = tt

begun_keeps : (h : Heads) (pause : Pause) (at : At) (values : List Value) (b : Beside) → EffectKeeps b (begun h pause at values b)
begun_keeps h (Cooperate None) at values b = tt
begun_keeps h (Cooperate (Some e)) at values b = by_value b (eval h values b e) at _ (λ v. begun_up values b (number_of v) _)
begun_keeps h (Await events limit) at values b = by_value b (eval_if h values b limit) at _ (λ v. by_hold b (has_any events b.around.board) (is_up (number_if v)) _ _ _ refl refl tt)
begun_keeps h (Get event index target) at values b =
    by_value b (eval h values b index) at _ (λ i.
    begun_get b (is_index (number_of i) (length (event_values event b.around.board))) _ event (number_of i) (set_keeps h (Some target) _ values (with_code (pos 0) b)))
begun_keeps h (Join thread limit) at values b =
    by_value b (eval h values b thread) at _ (λ t. by_value b (eval_if h values b limit) at _ (λ v. by_hold b (is_known (thread_or b.id t) b.around.known) (is_up (number_if v)) _ _ _ refl refl tt))
begun_keeps h (Link s) at values b = tt
begun_keeps h Unlink at values b = tt
begun_keeps h Halt at values b = tt

answered_keeps : (h : Heads) (pause : Option Pause) (w : Wait) (values : List Value) (b : Beside) → (answered h pause w values b).beside.id ≡ b.id
answered_keeps h pause wait.New values b = refl
answered_keeps h pause (wait.Coop left) values b = refl
answered_keeps h pause (wait.Events events left) values b = refl
answered_keeps h pause (wait.Index event i) values b = set_keeps h (target_of pause) _ values (with_code (pos 0) b)
answered_keeps h pause wait.Next values b = refl
answered_keeps h pause (wait.Join thread left) values b = refl
answered_keeps h pause wait.Halt values b = refl

-- ---- runs

-- a thread that goes on has this id
abbrev pub KeepsId : ThreadId → Outcome → Type 0
KeepsId t (Held u b left) = u.id ≡ t
KeepsId t (Left u to b left) = u.id ≡ t
KeepsId t (Ended end b left) = Unit {0}

later : (a b : ThreadId) (o : Outcome) → b ≡ a → KeepsId b o → KeepsId a o
later a b o p q = subst (λ (t : ThreadId). KeepsId t o) p q

-- each way to go on
abbrev GoesSo : {A : Type 0} → (Beside → List (Active A) → Outcome) → Type 0
GoesSo on = (b : Beside) (rs : List (Active _)) → KeepsId b.id (on b rs)

effect_so : {A : Type 0} (c : Control A) (left : ℕ) (on : Beside → List (Active A) → Outcome) → GoesSo on → (effect : Effect) (p : A) (r : Active A) (rs : List (Active A)) (b : Beside) → EffectKeeps b effect → KeepsId b.id (effect_on c left on effect p r rs b)
effect_so c left on h (GoesOn now) p r rs b e = later b.id now.beside.id (on now.beside (record r { values = now.values; at = p } ∷ rs)) e (h _ _)
effect_so c left on h (Waits w) p r rs b e = refl
effect_so c left on h (Leaves to) p r rs b e = refl
effect_so c left on h (Dies end) p r rs b e = tt

test_so : {A : Type 0} (left : ℕ) (on : Beside → List (Active A) → Outcome) → GoesSo on → (v : Option Value) (p q : A) (r : Active A) (rs : List (Active A)) (b : Beside) → KeepsId b.id (test_on left on v p q r rs b)
test_so left on h None p q r rs b = tt
test_so left on h (Some v) p q r rs b = h b _

count_so : {A : Type 0} (left : ℕ) (on : Beside → List (Active A) → Outcome) → GoesSo on → (v : Option Value) (f : ℤ → A) (r : Active A) (rs : List (Active A)) (b : Beside) → KeepsId b.id (count_on left on v f r rs b)
count_so left on h None f r rs b = tt
count_so left on h (Some v) f r rs b = h b (record r { at = f (number_of v) } ∷ rs)

run_chosen : (t : ThreadId) (room : Bool) (v w : Outcome) → KeepsId t v → KeepsId t w → KeepsId t (if room then v else w)
run_chosen t true v w p q = p
run_chosen t false v w p q = q

run_so : {A : Type 0} (c : Control A) (left : ℕ) (on : Beside → List (Active A) → Outcome) → GoesSo on → (arguments : Option (List Value)) (m : ModuleId) (r : Active A) (rs : List (Active A)) (b : Beside) → KeepsId b.id (run_on c left on arguments m r rs b)
run_so c left on h None m r rs b = tt
run_so c left on h (Some arguments) m r rs b =
    run_chosen b.id (nat_lt (length (r ∷ rs)) MAX_FRAMES) (on b (begun_frame c m arguments b ∷ r ∷ rs)) _ (h b (begun_frame c m arguments b ∷ r ∷ rs)) tt

step_so : {A : Type 0} (c : Control A) (left : ℕ) (on : Beside → List (Active A) → Outcome) → GoesSo on → (next : Next A) (r : Active A) (rs : List (Active A)) (b : Beside) → KeepsId b.id (step c left on next r rs b)
step_so c left on h Finish r rs b = h b rs
step_so c left on h Stuck r rs b = h b rs
step_so c left on h (Acts action p) r rs b = effect_so c left on h (did c.heads action (here r) r.values b) p r rs b (did_keeps c.heads action (here r) r.values b)
step_so c left on h (Advances p) r rs b = h b (record r { at = p } ∷ rs)
step_so c left on h (Tests test p q) r rs b = test_so left on h (eval c.heads r.values b test) p q r rs b
step_so c left on h (Counts count f) r rs b = count_so left on h (eval c.heads r.values b count) f r rs b
step_so c left on h (Holds k pause p) r rs b = effect_so c left on h (begun c.heads pause (here (stopped r k p)) r.values b) p (stopped r k p) rs b (begun_keeps c.heads pause (here (stopped r k p)) r.values b)
step_so c left on h (Runs k m arguments p) r rs b = run_so c left on h (eval_all c.heads r.values b arguments) m (stopped r k p) rs b

no_step_so : {A : Type 0} → GoesSo {A = A} no_step
no_step_so b [] = tt
no_step_so b (r ∷ rs) = tt

on_so : {A : Type 0} (c : Control A) (left : ℕ) (on : Beside → List (Active A) → Outcome) → GoesSo on → GoesSo (step_on c left on)
on_so c left on h b [] = tt
on_so c left on h b (r ∷ rs) = step_so c left on h (c.next r.module r.at) r rs b

going_so : {A : Type 0} (c : Control A) (n : ℕ) → GoesSo (going c n)
going_so c zero b rs = no_step_so b (live c rs)
going_so c (suc left) b rs = on_so c left (going c left) (going_so c left) b (live c rs)

go_on_so : {A : Type 0} (c : Control A) (n : ℕ) (w : Wait) → GoesSo (go_on c n w)
go_on_so c zero w b rs = no_step_so b rs
go_on_so c (suc left) w b [] = going_so c left b []
go_on_so c (suc left) w b (r ∷ rs) =
    let now = answered c.heads (c.pause r.module r.stop) w r.values b in
    later b.id now.beside.id _ (answered_keeps c.heads (c.pause r.module r.stop) w r.values b) (going_so c left now.beside (record r { values = now.values } ∷ rs))

-- a run of a thread of the program
pub run_keeps : (x : Prog) (t : Thread) (around : Around) (n : ℕ) → KeepsId t.id (run_of x t around n)
unfolding go
run_keeps (Tree p) t around n = go_on_so (tree p) n t.wait (beside t around) (actives_of (tree p) t)
run_keeps (Code c) t around n = go_on_so (code c) n t.wait (beside t around) (actives_of (code c) t)

-- who is linked after the run has this id
pub id_after : (o : Outcome) (t : ThreadId) (before now : Linked) → KeepsId t o → runners_after before o ≡ now ∷ [] → now.thread.id ≡ t
id_after (Held u b left) t before now keeps is =
    let e : record before { thread = u; runs = before.runs + 1; left = left } ≡ now = cc is in
    ap (λ (q : Linked). q.thread.id) (sym e) ∙ keeps
id_after (Left u to b left) t before now keeps is =
    let e : record before { thread = u; runs = before.runs + 1; left = left; leaving = Some to } ≡ now = cc is in
    ap (λ (q : Linked). q.thread.id) (sym e) ∙ keeps
id_after (Ended end b left) t before now keeps is = absurd cc
