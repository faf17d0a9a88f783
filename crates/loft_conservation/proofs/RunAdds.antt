-- What a run of a thread adds to what it found.
use Rattle.std.proofs.Common.{◌≡◌, ◌==◌, ℕ, zero, suc, ◌+◌, Bool, true, false, List, [], ◌∷◌, ◌++◌, length, Option, Some, None, refl, sym, subst, ap, ◌∙◌, arith, append_assoc}
use Rattle.std.specs.Prelude.{ℤ, pos, ◌≢◌, ◌&&◌, if◌then◌else◌, nat_lt, nat_le}
use Rattle.std.proofs.lemmas.List.{append-nil}
use Rattle.std.proofs.lemmas.Bool.{le-leb, lt-ltb, eqb-true, eqb-false, leb-true, ltb-true}
use Rattle.loft_base.specs.declared.ids.ModuleId.{ModuleId}
use Rattle.loft_base.specs.declared.ids.Maker.{Maker}
use Rattle.loft_base.specs.declared.ids.ThreadId.{ThreadId}
use Rattle.loft_base.specs.declared.ids.EventId.{EventId}
use Rattle.loft_base.specs.declared.ids.Value.{Value}
use Rattle.loft_base.specs.declared.ids.Value.TheVariants.{Thread as ThreadValue}
use Rattle.loft_board.specs.Board.{values as event_values}
use Rattle.loft_tree.specs.declared.kinds.Control.{Control as ControlKind}
use Rattle.loft_tree.specs.declared.kinds.Control.TheVariants as kind
use Rattle.loft_tree.specs.declared.heads.Heads.{Heads}
use Rattle.loft_tree.specs.declared.heads.Place.{Place}
use Rattle.loft_tree.specs.Resolved.{Target, ToSlot, ToShared, Action, Assign, Make, PrintText, PrintValue, Generate, ControlThread, Broadcast, Pause, Cooperate, Await, Get, Join, Link, Unlink, Halt}
use Rattle.loft_orders.specs.declared.thread.Thread.{Thread}
use Rattle.loft_orders.specs.declared.thread.Wait.{Wait}
use Rattle.loft_orders.specs.declared.thread.Wait.TheVariants as wait
use Rattle.loft_orders.specs.declared.note.Act.{Act}
use Rattle.loft_orders.specs.declared.note.Act.TheVariants as act
use Rattle.loft_orders.specs.declared.order.At.{At}
use Rattle.loft_orders.specs.declared.order.End.{End}
use Rattle.loft_orders.specs.declared.order.End.TheVariants.{Flood}
use Rattle.loft_orders.specs.declared.order.To.{To}
use Rattle.loft_orders.specs.declared.order.To.TheVariants as to
use Rattle.loft_sense.specs.declared.limits.TheConstants.{MAX_FRAMES}
use Rattle.loft_orders.specs.declared.order.Order.TheVariants as order
use Rattle.loft_sense.specs.Machine.{Prog, Tree, Code}
use Rattle.loft_sense.specs.Around.{Around, Beside, entered}
use Rattle.loft_sense.specs.Eval.{eval, eval_all, eval_if, number_of, number_if, thread_or}
use Rattle.loft_sense.specs.CanGo.{has_any, is_index, is_known, same_maker}
use Rattle.loft_sense.specs.Statements.{Effect, GoesOn, Waits, Leaves, Dies, Now, if_value, goes_on, most_entries, one_made, maker_at, new_id, create, order_of, is_up, hold, set_if, with_code, target_of, did, begun, answered}
use Rattle.loft_sense.specs.Run.{Next, Finish, Stuck, Acts, Advances, Tests, Counts, Holds, Runs, Control, Active, Outcome, Held, Left, Ended, ends, live, effect_on, test_on, count_on, run_on, begun_frame, stopped, step, step_on, no_step, going, go_on, go, here, beside, actives_of}
use Rattle.loft_sense.specs.Tree.{tree}
use Rattle.loft_sense.specs.Code.{code}
use Rattle.loft_sense.specs.Passes.{run_of}
use Rattle.loft_sense.specs.Instant.{sent_by}
use Rattle.loft_soundness.proofs.ListLemmas.{each_append}
use Rattle.loft_conservation.specs.Counts.{one, makes, made_in, among_made}
use Rattle.loft_conservation.specs.Adds.{IsPlain, IsPlainAct, Adds, AddsEnd, RunAdds}
use Rattle.loft_conservation.proofs.CountLemmas.{made_in-append, sent_by-append, none_made, numbers_join}

-- ---- one thing at a time

-- nothing of what counts
kept : (a b : Around) → b.place ≡ a.place → b.acts ≡ a.acts → b.made ≡ a.made → Adds a b
kept a b place acts made = record {
  place = place;
  more = [];
  is = acts ∙ sym (append-nil a.acts);
  plain = tt;
  up = omega (arith, made);
  fresh = λ t. sym (ap (λ (n : ℕ). among_made t (maker_at a.place) a.made n) made ∙ none_made t (maker_at a.place) a.made);
}

pub same : (a : Around) → Adds a a
same a = kept a a refl refl refl

pub chained : (a b c : Around) → Adds a b → Adds b c → Adds a c
chained a b c p q = record {
  place = q.place ∙ p.place;
  more = p.more ++ q.more;
  is = q.is ∙ ap (λ (acts : List Act). acts ++ q.more) p.is ∙ append_assoc a.acts p.more q.more;
  plain = each_append IsPlainAct p.more q.more p.plain q.plain;
  up = let e = p.up in let f = q.up in omega (arith, e, f);
  fresh = λ t.
      let e : made_in t (sent_by a.place (p.more ++ q.more)) ≡ made_in t (sent_by a.place p.more) + made_in t (sent_by a.place q.more) =
      ap (made_in t) (sent_by-append a.place p.more q.more) ∙ made_in-append t (sent_by a.place p.more) (sent_by a.place q.more) in
      let f : made_in t (sent_by a.place q.more) ≡ among_made t (maker_at a.place) b.made c.made = subst (λ (at : Place). made_in t (sent_by at q.more) ≡ among_made t (maker_at at) b.made c.made) p.place (q.fresh t) in
      e ∙ ap (λ (n : ℕ). n + made_in t (sent_by a.place q.more)) (p.fresh t) ∙ ap (λ (n : ℕ). among_made t (maker_at a.place) a.made b.made + n) f ∙ numbers_join t (maker_at a.place) a.made b.made c.made p.up q.up;
}

-- an act that makes nobody
entry : (a : Around) (done : Act) → IsPlainAct done → ((t : ThreadId) → made_in t (sent_by a.place (done ∷ [])) ≡ 0) → Adds a (entered done a)
entry a done plain none = record {
  place = refl;
  more = done ∷ [];
  is = refl;
  plain = (plain, tt);
  up = omega arith;
  fresh = λ t. none t ∙ sym (none_made t (maker_at a.place) a.made);
}

-- the next number of a maker
pub next_number : (t : ThreadId) (m : Maker) (n : ℕ) → one (same_maker t.maker m && t.seq == n) ≡ among_made t m n (n + 1)
next_number t m n = by (same_maker t.maker m) (t.seq == n) (nat_le n t.seq) (nat_lt t.seq (n + 1)) refl refl refl
  where
    by : (p q r s : Bool) → (t.seq == n) ≡ q → nat_le n t.seq ≡ r → nat_lt t.seq (n + 1) ≡ s → one (p && q) ≡ one (p && r && s)
    by false q r s e f g = refl
    by true true true true e f g = refl
    by true true true false e f g = let u = eqb-true t.seq n e in absurd (true_false (sym (lt-ltb t.seq (n + 1) (omega (arith, u))) ∙ g))
      where
        true_false : true ≡ false → ⊥
        true_false e = cc
    by true true false s e f g = let u = eqb-true t.seq n e in absurd (true_false (sym (le-leb n t.seq (omega (arith, u))) ∙ f))
      where
        true_false : true ≡ false → ⊥
        true_false e = cc
    by true false true true e f g = let u = eqb-false t.seq n e in let v = leb-true n t.seq f in let w = ltb-true t.seq (n + 1) g in absurd (u (omega (arith, v, w)))
    by true false true false e f g = refl
    by true false false s e f g = refl

-- a create
entry_made : (a : Around) (t : ThreadId) (where_to : To) (m : ModuleId) (args : List Value) → Adds a (one_made (entered (act.Out t (record { to = where_to; order = order.Create (new_id a) m args })) a))
entry_made a t where_to m args = record {
  place = refl;
  more = act.Out t (record { to = where_to; order = order.Create (new_id a) m args }) ∷ [];
  is = refl;
  plain = (tt, tt);
  up = omega arith;
  fresh = λ u. let e = next_number u (maker_at a.place) a.made in omega (arith, e);
}

-- ---- statements

-- what stands beside a frame after some statements
abbrev BesideAdds : Beside → Beside → Type 0
BesideAdds a b = (b.id ≡ a.id) × Adds a.around b.around

abbrev EffectAdds : Beside → Effect → Type 0
EffectAdds b (GoesOn now) = BesideAdds b now.beside
EffectAdds b (Waits w) = w ≢ wait.New
EffectAdds b (Leaves to) = Unit {0}
EffectAdds b (Dies end) = Unit {0}

by_value : {A : Type 0} (b : Beside) (v : Option A) (at : At) (act_on : A → Effect) → ((w : A) → EffectAdds b (act_on w)) → EffectAdds b (if_value v at act_on)
by_value b None at act_on h = tt
by_value b (Some v) at act_on h = h v

by_room : (b : Beside) (room : Bool) (effect : Effect) (at : At) → EffectAdds b effect → EffectAdds b (if room then effect else Dies (Flood at))
by_room b true effect at h = h
by_room b false effect at h = tt

by_hold : (b : Beside) (is_there up : Bool) (there late waits : Effect) → EffectAdds b there → EffectAdds b late → EffectAdds b waits → EffectAdds b (hold is_there up there late waits)
by_hold b true up there late waits p q r = p
by_hold b false true there late waits p q r = q
by_hold b false false there late waits p q r = r

set_adds : (h : Heads) (target : Option Target) (v : Value) (values : List Value) (b : Beside) → BesideAdds b (set_if h target v values b).beside
set_adds h None v values b = (refl, same b.around)
set_adds h (Some (ToSlot k)) v values b = (refl, same b.around)
set_adds h (Some (ToShared x)) v values b = (refl, kept b.around _ refl refl refl)

control_plain : (control : ControlKind) (t : ThreadId) → IsPlain (order_of control t)
control_plain kind.Stop t = tt
control_plain kind.Suspend t = tt
control_plain kind.Resume t = tt

control_makes : (control : ControlKind) (u t : ThreadId) → makes u (order_of control t) ≡ 0
control_makes kind.Stop u t = refl
control_makes kind.Suspend u t = refl
control_makes kind.Resume u t = refl

beside_chained : (a b c : Beside) → BesideAdds a b → BesideAdds b c → BesideAdds a c
beside_chained a b c p q = (q.0 ∙ p.0, chained a.around b.around c.around p.1 q.1)

did_adds : (h : Heads) (action : Action) (at : At) (values : List Value) (b : Beside) → EffectAdds b (did h action at values b)
did_adds h (Assign target e) at values b = by_value b (eval h values b e) at _ (λ v. set_adds h (Some target) v values b)
did_adds h (Make target s m arguments) at values b =
    by_value b (eval_all h values b arguments) at _ (λ args.
    let sent = create (to.Sched s) (order.Create (new_id b.around) m args) b in
    by_room b (nat_lt b.around.entries (most_entries b.around.place)) _ at
    (beside_chained b sent (set_if h target (ThreadValue (new_id b.around)) values sent).beside (refl, entry_made b.around b.id (to.Sched s) m args)
    (set_adds h target (ThreadValue (new_id b.around)) values sent)))
did_adds h (PrintText line e) at values b =
    by_value b (eval_if h values b e) at _ (λ v.
    by_room b (nat_lt b.around.entries (most_entries b.around.place)) _ at (refl, entry b.around _ tt (λ t. refl)))
did_adds h (PrintValue e) at values b =
    by_value b (eval h values b e) at _ (λ v.
    by_room b (nat_lt b.around.entries (most_entries b.around.place)) _ at (refl, entry b.around _ tt (λ t. refl)))
did_adds h (Generate event e) at values b =
    by_value b (eval_if h values b e) at _ (λ v.
    by_room b (nat_lt b.around.entries (most_entries b.around.place)) _ at
    (refl, chained b.around _ _ (kept b.around _ refl refl refl) (entry _ (act.Gen b.id event (number_if v)) tt (λ t. refl))))
did_adds h (ControlThread control e s) at values b =
    by_value b (eval h values b e) at _ (λ v.
    by_room b (nat_lt b.around.entries (most_entries b.around.place)) _ at
    (refl, entry b.around _ (control_plain control (thread_or b.id v)) (λ t. let e = control_makes control t (thread_or b.id v) in omega (arith, e))))
did_adds h (Broadcast event e) at values b =
    by_value b (eval_if h values b e) at _ (λ v.
    by_room b (nat_lt b.around.entries (most_entries b.around.place)) _ at (refl, entry b.around _ tt (λ t. omega arith)))

begun_up : (values : List Value) (b : Beside) (n : ℤ) (up : Bool) → EffectAdds b (if up then goes_on values b else Waits (wait.Coop n))
begun_up values b n true = (refl, same b.around)
begun_up values b n false = λ e. cc

begun_get : (b : Beside) (is_there : Bool) (now : Now) (event : EventId) (i : ℤ) → BesideAdds b now.beside → EffectAdds b (if is_there then GoesOn now else Waits (wait.Index event i))
begun_get b true now event i p = p
begun_get b false now event i p = λ e. cc

begun_adds : (h : Heads) (pause : Pause) (at : At) (values : List Value) (b : Beside) → EffectAdds b (begun h pause at values b)
begun_adds h (Cooperate None) at values b = λ e. cc
begun_adds h (Cooperate (Some e)) at values b = by_value b (eval h values b e) at _ (λ v. begun_up values b (number_of v) _)
begun_adds h (Await events limit) at values b =
    by_value b (eval_if h values b limit) at _ (λ v.
    by_hold b (has_any events b.around.board) (is_up (number_if v)) _ _ _ (refl, same b.around) (refl, same b.around) (λ e. cc))
begun_adds h (Get event index target) at values b =
    by_value b (eval h values b index) at _ (λ i.
    begun_get b (is_index (number_of i) (length (event_values event b.around.board))) _ event (number_of i) (set_adds h (Some target) _ values (with_code (pos 0) b)))
begun_adds h (Join thread limit) at values b =
    by_value b (eval h values b thread) at _ (λ t.
    by_value b (eval_if h values b limit) at _ (λ v.
    by_hold b (is_known (thread_or b.id t) b.around.known) (is_up (number_if v)) _ _ _ (refl, same b.around) (refl, same b.around) (λ e. cc)))
begun_adds h (Link s) at values b = tt
begun_adds h Unlink at values b = tt
begun_adds h Halt at values b = λ e. cc

answered_adds : (h : Heads) (pause : Option Pause) (w : Wait) (values : List Value) (b : Beside) → BesideAdds b (answered h pause w values b).beside
answered_adds h pause wait.New values b = (refl, same b.around)
answered_adds h pause (wait.Coop left) values b = (refl, same b.around)
answered_adds h pause (wait.Events events left) values b = (refl, same b.around)
answered_adds h pause (wait.Index event i) values b = set_adds h (target_of pause) _ values (with_code (pos 0) b)
answered_adds h pause wait.Next values b = (refl, same b.around)
answered_adds h pause (wait.Join thread left) values b = (refl, same b.around)
answered_adds h pause wait.Halt values b = (refl, same b.around)

-- ---- runs

later : (a b : Beside) (o : Outcome) → BesideAdds a b → RunAdds b.id b.around o → RunAdds a.id a.around o
later a b (Held t c left) p q = (q.0 ∙ p.0, q.1, chained a.around b.around c p.1 q.2)
later a b (Left t to c left) p q = (q.0 ∙ p.0, chained a.around b.around c p.1 q.1)
later a b (Ended end c left) p q =
    subst (λ (t : ThreadId). AddsEnd t end a.around c) p.0 (record { last = q.last; adds = chained a.around b.around q.last p.1 q.adds; is = q.is; made = q.made; place = q.place })

-- each way to go on
abbrev GoesSo : {A : Type 0} → (Beside → List (Active A) → Outcome) → Type 0
GoesSo on = (b : Beside) (rs : List (Active _)) → RunAdds b.id b.around (on b rs)

ends_so : (end : End) (b : Beside) (left : ℕ) → RunAdds b.id b.around (ends end b left)
ends_so end b left = record { last = b.around; adds = same b.around; is = refl; made = refl; place = refl }

effect_so : {A : Type 0} (c : Control A) (left : ℕ) (on : Beside → List (Active A) → Outcome) → GoesSo on → (effect : Effect) (p : A) (r : Active A) (rs : List (Active A)) (b : Beside) → EffectAdds b effect → RunAdds b.id b.around (effect_on c left on effect p r rs b)
effect_so c left on h (GoesOn now) p r rs b e = later b now.beside (on now.beside (record r { values = now.values; at = p } ∷ rs)) e (h _ _)
effect_so c left on h (Waits w) p r rs b e = (refl, e, same b.around)
effect_so c left on h (Leaves to) p r rs b e = (refl, same b.around)
effect_so c left on h (Dies end) p r rs b e = ends_so end b left

test_so : {A : Type 0} (left : ℕ) (on : Beside → List (Active A) → Outcome) → GoesSo on → (v : Option Value) (p q : A) (r : Active A) (rs : List (Active A)) (b : Beside) → RunAdds b.id b.around (test_on left on v p q r rs b)
test_so left on h None p q r rs b = ends_so _ b left
test_so left on h (Some v) p q r rs b = h b _

count_so : {A : Type 0} (left : ℕ) (on : Beside → List (Active A) → Outcome) → GoesSo on → (v : Option Value) (f : ℤ → A) (r : Active A) (rs : List (Active A)) (b : Beside) → RunAdds b.id b.around (count_on left on v f r rs b)
count_so left on h None f r rs b = ends_so _ b left
count_so left on h (Some v) f r rs b = h b (record r { at = f (number_of v) } ∷ rs)

run_chosen : (t : ThreadId) (a : Around) (room : Bool) (v w : Outcome) → RunAdds t a v → RunAdds t a w → RunAdds t a (if room then v else w)
run_chosen t a true v w p q = p
run_chosen t a false v w p q = q

run_so : {A : Type 0} (c : Control A) (left : ℕ) (on : Beside → List (Active A) → Outcome) → GoesSo on → (arguments : Option (List Value)) (m : ModuleId) (r : Active A) (rs : List (Active A)) (b : Beside) → RunAdds b.id b.around (run_on c left on arguments m r rs b)
run_so c left on h None m r rs b = ends_so _ b left
run_so c left on h (Some arguments) m r rs b =
    run_chosen b.id b.around (nat_lt (length (r ∷ rs)) MAX_FRAMES) (on b (begun_frame c m arguments b ∷ r ∷ rs)) _ (h b (begun_frame c m arguments b ∷ r ∷ rs)) (ends_so _ b left)

step_so : {A : Type 0} (c : Control A) (left : ℕ) (on : Beside → List (Active A) → Outcome) → GoesSo on → (next : Next A) (r : Active A) (rs : List (Active A)) (b : Beside) → RunAdds b.id b.around (step c left on next r rs b)
step_so c left on h Finish r rs b = h b rs
step_so c left on h Stuck r rs b = h b rs
step_so c left on h (Acts action p) r rs b = effect_so c left on h (did c.heads action (here r) r.values b) p r rs b (did_adds c.heads action (here r) r.values b)
step_so c left on h (Advances p) r rs b = h b (record r { at = p } ∷ rs)
step_so c left on h (Tests test p q) r rs b = test_so left on h (eval c.heads r.values b test) p q r rs b
step_so c left on h (Counts count f) r rs b = count_so left on h (eval c.heads r.values b count) f r rs b
step_so c left on h (Holds k pause p) r rs b = effect_so c left on h (begun c.heads pause (here (stopped r k p)) r.values b) p (stopped r k p) rs b (begun_adds c.heads pause (here (stopped r k p)) r.values b)
step_so c left on h (Runs k m arguments p) r rs b = run_so c left on h (eval_all c.heads r.values b arguments) m (stopped r k p) rs b

no_step_so : {A : Type 0} → GoesSo {A = A} no_step
no_step_so b [] = ends_so _ b 0
no_step_so b (r ∷ rs) = ends_so _ b 0

on_so : {A : Type 0} (c : Control A) (left : ℕ) (on : Beside → List (Active A) → Outcome) → GoesSo on → GoesSo (step_on c left on)
on_so c left on h b [] = ends_so _ b (suc left)
on_so c left on h b (r ∷ rs) = step_so c left on h (c.next r.module r.at) r rs b

going_so : {A : Type 0} (c : Control A) (n : ℕ) → GoesSo (going c n)
going_so c zero b rs = no_step_so b (live c rs)
going_so c (suc left) b rs = on_so c left (going c left) (going_so c left) b (live c rs)

go_on_so : {A : Type 0} (c : Control A) (n : ℕ) (w : Wait) → GoesSo (go_on c n w)
go_on_so c zero w b rs = no_step_so b rs
go_on_so c (suc left) w b [] = going_so c left b []
go_on_so c (suc left) w b (r ∷ rs) =
    let now = answered c.heads (c.pause r.module r.stop) w r.values b in
    later b now.beside _ (answered_adds c.heads (c.pause r.module r.stop) w r.values b) (going_so c left now.beside (record r { values = now.values } ∷ rs))

-- a run of a thread of the program
pub run_adds : (x : Prog) (t : Thread) (around : Around) (n : ℕ) → RunAdds t.id around (run_of x t around n)
unfolding go
run_adds (Tree p) t around n = go_on_so (tree p) n t.wait (beside t around) (actives_of (tree p) t)
run_adds (Code c) t around n = go_on_so (code c) n t.wait (beside t around) (actives_of (code c) t)
