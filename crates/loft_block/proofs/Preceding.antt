-- What was done before changes nothing of a run.
use Rattle.std.proofs.Common.{◌≡◌, ℕ, zero, suc, ◌+◌, Bool, true, false, List, [], ◌∷◌, ◌++◌, Option, Some, None, length, refl, sym, ap, ◌∙◌, append_assoc, append-nil}
use Rattle.std.specs.Prelude.{ℤ, if◌then◌else◌, nat_lt}
use Rattle.std.specs.Option.{option_map, option_and_then}
use Rattle.loft_base.specs.declared.ids.EventId.{EventId}
use Rattle.loft_base.specs.declared.ids.ModuleId.{ModuleId}
use Rattle.loft_base.specs.declared.ids.Value.{Value}
use Rattle.loft_base.specs.declared.ids.Value.TheVariants.{Int, Thread as ThreadValue}
use Rattle.loft_board.specs.Board.{values as event_values, generate}
use Rattle.loft_tree.specs.declared.heads.Heads.{Heads}
use Rattle.loft_tree.specs.declared.heads.Place.{Place}
use Rattle.loft_tree.specs.declared.heads.Place.TheVariants.{Unlinked}
use Rattle.loft_tree.specs.declared.kinds.Builtin.{Builtin}
use Rattle.loft_tree.specs.declared.kinds.Builtin.TheVariants.{Itself, Code as CodeOf, Mask}
use Rattle.loft_tree.specs.Resolved.{Exp, Number, Slot, Shared, Special, Unary, Binary, Target, ToSlot, ToShared, Action, Assign, Make, PrintText, PrintValue, Generate, ControlThread, Broadcast, Pause, Cooperate, Await, Get, Join, Link, Unlink, Halt}
use Rattle.loft_sense.specs.declared.limits.TheConstants.{MAX_FRAMES}
use Rattle.loft_orders.specs.declared.note.Act.{Act}
use Rattle.loft_orders.specs.declared.note.Act.TheVariants as act
use Rattle.loft_orders.specs.declared.order.At.{At}
use Rattle.loft_orders.specs.declared.order.End.{End}
use Rattle.loft_orders.specs.declared.order.Order.{Order}
use Rattle.loft_orders.specs.declared.order.Order.TheVariants as order
use Rattle.loft_orders.specs.declared.order.Sent.{Sent}
use Rattle.loft_orders.specs.declared.order.To.{To}
use Rattle.loft_orders.specs.declared.order.To.TheVariants as to
use Rattle.loft_orders.specs.declared.thread.Thread.{Thread}
use Rattle.loft_orders.specs.declared.thread.Wait.{Wait}
use Rattle.loft_orders.specs.declared.thread.Wait.TheVariants as wait
use Rattle.loft_sense.specs.Machine.{Prog, Tree, Code}
use Rattle.loft_sense.specs.Around.{Around, Beside, with_act, entered}
use Rattle.loft_sense.specs.Eval.{eval, eval_all, eval_if, number_of, number_if, thread_or, special_value, unary_value, binary_value}
use Rattle.loft_sense.specs.CanGo.{has_any, is_index, is_known}
use Rattle.loft_sense.specs.Statements.{Effect, GoesOn, Waits, Leaves, Dies, Now, now, if_value, goes_on, most_entries, code_ok, code_timeout, enter, create, new_id, one_made, is_up, hold, set_if, mask_after, with_code, events_end, code_after, indexed, target_of, did, begun, answered}
use Rattle.loft_sense.specs.Run.{Next, Finish, Stuck, Acts, Advances, Tests, Counts, Holds, Runs, Control, Active, Outcome, Held, Left, Ended, ends, live, effect_on, test_on, count_on, run_on, begun_frame, stopped, step, step_on, no_step, going, go_on, go, here, beside, actives_of}
use Rattle.loft_sense.specs.Tree.{tree}
use Rattle.loft_sense.specs.Code.{code}
use Rattle.loft_sense.specs.Passes.{run_of}
use Rattle.loft_sense.specs.Instant.{sent_by}
use Rattle.loft_sense.specs.Apply.{tell_end}
use Rattle.loft_sense.specs.Async.{block_sent}
use Rattle.loft_block.specs.Preceded.{around_preceded, beside_preceded, outcome_preceded}

-- ---- what is seen

module _ (before : List Act) where
  special_same : (builtin : Builtin) (b : Beside) → special_value builtin (beside_preceded before b) ≡ special_value builtin b
  special_same Itself b = refl
  special_same CodeOf b = refl
  special_same Mask b = refl

  eval_same : (h : Heads) (values : List Value) (b : Beside) (e : Exp) → eval h values (beside_preceded before b) e ≡ eval h values b e
  eval_same h values b (Number n) = refl
  eval_same h values b (Slot k) = refl
  eval_same h values b (Shared x) = refl
  eval_same h values b (Special builtin) = ap Some (special_same builtin b)
  eval_same h values b (Unary operator operand) = ap (option_map (λ (v : Value). unary_value operator (number_of v))) (eval_same h values b operand)
  eval_same h values b (Binary operator left right) =
      ap (λ (o : Option Value). option_and_then (λ (v : Value). option_and_then (binary_value operator v) (eval h values (beside_preceded before b) right)) o) (eval_same h values b left)
      ∙ ap (λ (o : Option Value). option_and_then (λ (v : Value). option_and_then (binary_value operator v) o) (eval h values b left)) (eval_same h values b right)

  eval_all_same : (h : Heads) (values : List Value) (b : Beside) (es : List Exp) → eval_all h values (beside_preceded before b) es ≡ eval_all h values b es
  eval_all_same h values b [] = refl
  eval_all_same h values b (e ∷ es) =
      ap (λ (o : Option Value). option_and_then (λ (v : Value). option_map (λ (vs : List Value). v ∷ vs) (eval_all h values (beside_preceded before b) es)) o) (eval_same h values b e)
      ∙ ap (λ (o : Option (List Value)). option_and_then (λ (v : Value). option_map (λ (vs : List Value). v ∷ vs) o) (eval h values b e)) (eval_all_same h values b es)

  eval_if_same : (h : Heads) (values : List Value) (b : Beside) (e : Option Exp) → eval_if h values (beside_preceded before b) e ≡ eval_if h values b e
  eval_if_same h values b None = refl
  eval_if_same h values b (Some e) = ap (option_map (λ (v : Value). Some v)) (eval_same h values b e)

  mask_same : (events : List EventId) (b : Beside) → mask_after events (beside_preceded before b) ≡ mask_after events b
  mask_same [] b = refl
  mask_same (e ∷ []) b = refl
  mask_same (e ∷ f ∷ es) b = refl

-- ---- what is done

module _ (before : List Act) where
  abbrev now_preceded : Now → Now
  now_preceded n = record n { beside = beside_preceded before n.beside }

  abbrev effect_preceded : Effect → Effect
  effect_preceded (GoesOn n) = GoesOn (now_preceded n)
  effect_preceded (Waits w) = Waits w
  effect_preceded (Leaves whither) = Leaves whither
  effect_preceded (Dies end) = Dies end

  done_after : (one : Act) (around : Around) → with_act one (around_preceded before around) ≡ around_preceded before (with_act one around)
  done_after one around = ap (λ (acts : List Act). record around { acts = acts }) (append_assoc before around.acts (one ∷ []))

  entered_after : (one : Act) (around : Around) → entered one (around_preceded before around) ≡ around_preceded before (entered one around)
  entered_after one around = ap (λ (acts : List Act). record around { entries = around.entries + 1; acts = acts }) (append_assoc before around.acts (one ∷ []))

  enter_after : (one : Act) (b : Beside) → enter one (beside_preceded before b) ≡ beside_preceded before (enter one b)
  enter_after one b = ap (λ (around : Around). record b { around = around }) (entered_after one b.around)

  create_after : (whither : To) (what : Order) (b : Beside) → create whither what (beside_preceded before b) ≡ beside_preceded before (create whither what b)
  create_after whither what b = ap (λ (around : Around). record b { around = one_made around }) (entered_after (act.Out b.id (record { to = whither; order = what })) b.around)

  by_value : {A : Type 0} (v w : Option A) (at : At) (f g : A → Effect) → w ≡ v → ((x : A) → g x ≡ effect_preceded (f x)) → if_value w at g ≡ effect_preceded (if_value v at f)
  by_value None w at f g same each = ap (λ (o : Option _). if_value o at g) same
  by_value (Some x) w at f g same each = ap (λ (o : Option _). if_value o at g) same ∙ each x

  by_choice : (b : Bool) (x y v w : Effect) → v ≡ effect_preceded x → w ≡ effect_preceded y → (if b then v else w) ≡ effect_preceded (if b then x else y)
  by_choice true x y v w p q = p
  by_choice false x y v w p q = q

  by_hold : (is_there up : Bool) (x y z u v w : Effect) → u ≡ effect_preceded x → v ≡ effect_preceded y → w ≡ effect_preceded z → hold is_there up u v w ≡ effect_preceded (hold is_there up x y z)
  by_hold true up x y z u v w p q r = p
  by_hold false true x y z u v w p q r = q
  by_hold false false x y z u v w p q r = r

  set_after : (h : Heads) (target : Option Target) (v : Value) (values : List Value) (b : Beside) → set_if h target v values (beside_preceded before b) ≡ now_preceded (set_if h target v values b)
  set_after h None v values b = refl
  set_after h (Some (ToSlot k)) v values b = refl
  set_after h (Some (ToShared x)) v values b = refl

  events_end_after : (events : List EventId) (result : ℤ) (b : Beside) → events_end events result (beside_preceded before b) ≡ beside_preceded before (events_end events result b)
  events_end_after events result b = ap (λ (mask : ℤ). record (beside_preceded before b) { code = result; mask = mask }) (mask_same before events b)

  did_after : (h : Heads) (action : Action) (at : At) (values : List Value) (b : Beside) → did h action at values (beside_preceded before b) ≡ effect_preceded (did h action at values b)
  did_after h (Assign target e) at values b =
      by_value (eval h values b e) _ at _ _ (eval_same before h values b e) (λ v. ap GoesOn (set_after h (Some target) v values b))
  did_after h (Make target s m arguments) at values b =
      by_value (eval_all h values b arguments) _ at _ _ (eval_all_same before h values b arguments) (λ args.
      by_choice (nat_lt b.around.entries (most_entries b.around.place)) _ _ _ _
      (ap (λ (c : Beside). GoesOn (set_if h target (ThreadValue (new_id b.around)) values c)) (create_after (to.Sched s) (order.Create (new_id b.around) m args) b)
      ∙ ap GoesOn (set_after h target (ThreadValue (new_id b.around)) values (create (to.Sched s) (order.Create (new_id b.around) m args) b)))
      refl)
  did_after h (PrintText line e) at values b =
      by_value (eval_if h values b e) _ at _ _ (eval_if_same before h values b e) (λ v.
      by_choice (nat_lt b.around.entries (most_entries b.around.place)) _ _ _ _ (ap (goes_on values) (enter_after (act.Print b.id _) b)) refl)
  did_after h (PrintValue e) at values b =
      by_value (eval h values b e) _ at _ _ (eval_same before h values b e) (λ v.
      by_choice (nat_lt b.around.entries (most_entries b.around.place)) _ _ _ _ (ap (goes_on values) (enter_after (act.Print b.id _) b)) refl)
  did_after h (Generate event e) at values b =
      by_value (eval_if h values b e) _ at _ _ (eval_if_same before h values b e) (λ v.
      by_choice (nat_lt b.around.entries (most_entries b.around.place)) _ _ _ _
      (ap (goes_on values) (enter_after (act.Gen b.id event (number_if v)) (record b { around = record b.around { board = generate event (number_if v) b.around.board } }))) refl)
  did_after h (ControlThread control e s) at values b =
      by_value (eval h values b e) _ at _ _ (eval_same before h values b e) (λ v.
      by_choice (nat_lt b.around.entries (most_entries b.around.place)) _ _ _ _ (ap (goes_on values) (enter_after (act.Out b.id _) b)) refl)
  did_after h (Broadcast event e) at values b =
      by_value (eval_if h values b e) _ at _ _ (eval_if_same before h values b e) (λ v.
      by_choice (nat_lt b.around.entries (most_entries b.around.place)) _ _ _ _ (ap (goes_on values) (enter_after (act.Out b.id _) b)) refl)

  begun_after : (h : Heads) (pause : Pause) (at : At) (values : List Value) (b : Beside) → begun h pause at values (beside_preceded before b) ≡ effect_preceded (begun h pause at values b)
  begun_after h (Cooperate None) at values b = refl
  begun_after h (Cooperate (Some e)) at values b =
      by_value (eval h values b e) _ at _ _ (eval_same before h values b e) (λ v. by_choice (is_up (Some (number_of v))) _ _ _ _ refl refl)
  begun_after h (Await events limit) at values b =
      by_value (eval_if h values b limit) _ at _ _ (eval_if_same before h values b limit) (λ v.
      by_hold (has_any events b.around.board) (is_up (number_if v)) _ _ _ _ _ _ (ap (goes_on values) (events_end_after events code_ok b)) (ap (goes_on values) (events_end_after events code_timeout b)) refl)
  begun_after h (Get event index target) at values b =
      by_value (eval h values b index) _ at _ _ (eval_same before h values b index) (λ i.
      by_choice (is_index (number_of i) (length (event_values event b.around.board))) _ _ _ _
      (ap GoesOn (set_after h (Some target) (Int (indexed (event_values event b.around.board) (number_of i))) values (with_code code_ok b))) refl)
  begun_after h (Join thread limit) at values b =
      by_value (eval h values b thread) _ at _ _ (eval_same before h values b thread) (λ t.
      by_value (eval_if h values b limit) _ at _ _ (eval_if_same before h values b limit) (λ v.
      by_hold (is_known (thread_or b.id t) b.around.known) (is_up (number_if v)) _ _ _ _ _ _ refl refl refl))
  begun_after h (Link s) at values b = refl
  begun_after h Unlink at values b = refl
  begun_after h Halt at values b = refl

  answered_after : (h : Heads) (pause : Option Pause) (w : Wait) (values : List Value) (b : Beside) → answered h pause w values (beside_preceded before b) ≡ now_preceded (answered h pause w values b)
  answered_after h pause wait.New values b = refl
  answered_after h pause (wait.Coop left) values b = refl
  answered_after h pause (wait.Events events left) values b = ap (now values) (events_end_after events (code_after left) b)
  answered_after h pause (wait.Index event i) values b = set_after h (target_of pause) (Int (indexed (event_values event b.around.board) i)) values (with_code code_ok b)
  answered_after h pause wait.Next values b = refl
  answered_after h pause (wait.Join thread left) values b = refl
  answered_after h pause wait.Halt values b = refl

-- ---- runs

module _ (before : List Act) where
  -- a way to go on for which that holds
  abbrev GoesAlike : {A : Type 0} → (Beside → List (Active A) → Outcome) → Type 0
  GoesAlike on = (b : Beside) (rs : List (Active _)) → on (beside_preceded before b) rs ≡ outcome_preceded before (on b rs)

  ends_after : (end : End) (b : Beside) (left : ℕ) → ends end (beside_preceded before b) left ≡ outcome_preceded before (ends end b left)
  ends_after end b left = ap (λ (around : Around). Ended end around left) (done_after before (act.End b.id end) (record b.around { known = b.around.known ++ b.id ∷ [] }))

  effect_alike : {A : Type 0} (c : Control A) (left : ℕ) (on : Beside → List (Active A) → Outcome) → GoesAlike on → (effect : Effect) (p : A) (r : Active A) (rs : List (Active A)) (b : Beside)
      → effect_on c left on (effect_preceded before effect) p r rs (beside_preceded before b) ≡ outcome_preceded before (effect_on c left on effect p r rs b)
  effect_alike c left on h (GoesOn n) p r rs b = h n.beside (record r { values = n.values; at = p } ∷ rs)
  effect_alike c left on h (Waits w) p r rs b = refl
  effect_alike c left on h (Leaves whither) p r rs b = refl
  effect_alike c left on h (Dies end) p r rs b = ends_after end b left

  test_alike : {A : Type 0} (left : ℕ) (on : Beside → List (Active A) → Outcome) → GoesAlike on → (v w : Option Value) → w ≡ v → (p q : A) (r : Active A) (rs : List (Active A)) (b : Beside)
      → test_on left on w p q r rs (beside_preceded before b) ≡ outcome_preceded before (test_on left on v p q r rs b)
  test_alike left on h None w same p q r rs b = ap (λ (o : Option Value). test_on left on o p q r rs (beside_preceded before b)) same ∙ ends_after _ b left
  test_alike left on h (Some v) w same p q r rs b = ap (λ (o : Option Value). test_on left on o p q r rs (beside_preceded before b)) same ∙ h b _

  count_alike : {A : Type 0} (left : ℕ) (on : Beside → List (Active A) → Outcome) → GoesAlike on → (v w : Option Value) → w ≡ v → (f : ℤ → A) (r : Active A) (rs : List (Active A)) (b : Beside)
      → count_on left on w f r rs (beside_preceded before b) ≡ outcome_preceded before (count_on left on v f r rs b)
  count_alike left on h None w same f r rs b = ap (λ (o : Option Value). count_on left on o f r rs (beside_preceded before b)) same ∙ ends_after _ b left
  count_alike left on h (Some v) w same f r rs b = ap (λ (o : Option Value). count_on left on o f r rs (beside_preceded before b)) same ∙ h b (record r { at = f (number_of v) } ∷ rs)

  chosen_alike : (few : Bool) (x y v w : Outcome) → v ≡ outcome_preceded before x → w ≡ outcome_preceded before y → (if few then v else w) ≡ outcome_preceded before (if few then x else y)
  chosen_alike true x y v w p q = p
  chosen_alike false x y v w p q = q

  run_alike : {A : Type 0} (c : Control A) (left : ℕ) (on : Beside → List (Active A) → Outcome) → GoesAlike on → (v w : Option (List Value)) → w ≡ v → (m : ModuleId) (r : Active A) (rs : List (Active A)) (b : Beside)
      → run_on c left on w m r rs (beside_preceded before b) ≡ outcome_preceded before (run_on c left on v m r rs b)
  run_alike c left on h None w same m r rs b = ap (λ (o : Option (List Value)). run_on c left on o m r rs (beside_preceded before b)) same ∙ ends_after _ b left
  run_alike c left on h (Some arguments) w same m r rs b =
      ap (λ (o : Option (List Value)). run_on c left on o m r rs (beside_preceded before b)) same
      ∙ chosen_alike (nat_lt (length (r ∷ rs)) MAX_FRAMES) _ _ _ _ (h b (begun_frame c m arguments b ∷ r ∷ rs)) (ends_after _ b left)

  step_alike : {A : Type 0} (c : Control A) (left : ℕ) (on : Beside → List (Active A) → Outcome) → GoesAlike on → (next : Next A) (r : Active A) (rs : List (Active A)) (b : Beside)
      → step c left on next r rs (beside_preceded before b) ≡ outcome_preceded before (step c left on next r rs b)
  step_alike c left on h Finish r rs b = h b rs
  step_alike c left on h Stuck r rs b = h b rs
  step_alike c left on h (Acts action p) r rs b =
      ap (λ (e : Effect). effect_on c left on e p r rs (beside_preceded before b)) (did_after before c.heads action (here r) r.values b)
      ∙ effect_alike c left on h (did c.heads action (here r) r.values b) p r rs b
  step_alike c left on h (Advances p) r rs b = h b (record r { at = p } ∷ rs)
  step_alike c left on h (Tests test p q) r rs b = test_alike left on h (eval c.heads r.values b test) _ (eval_same before c.heads r.values b test) p q r rs b
  step_alike c left on h (Counts count f) r rs b = count_alike left on h (eval c.heads r.values b count) _ (eval_same before c.heads r.values b count) f r rs b
  step_alike c left on h (Holds k pause p) r rs b =
      ap (λ (e : Effect). effect_on c left on e p (stopped r k p) rs (beside_preceded before b)) (begun_after before c.heads pause (here (stopped r k p)) r.values b)
      ∙ effect_alike c left on h (begun c.heads pause (here (stopped r k p)) r.values b) p (stopped r k p) rs b
  step_alike c left on h (Runs k m arguments p) r rs b =
      run_alike c left on h (eval_all c.heads r.values b arguments) _ (eval_all_same before c.heads r.values b arguments) m (stopped r k p) rs b

  no_step_alike : {A : Type 0} → GoesAlike {A = A} no_step
  no_step_alike b [] = ends_after _ b 0
  no_step_alike b (r ∷ rs) = ends_after _ b 0

  on_alike : {A : Type 0} (c : Control A) (left : ℕ) (on : Beside → List (Active A) → Outcome) → GoesAlike on → GoesAlike (step_on c left on)
  on_alike c left on h b [] = ends_after _ b (suc left)
  on_alike c left on h b (r ∷ rs) = step_alike c left on h (c.next r.module r.at) r rs b

  pub going_alike : {A : Type 0} (c : Control A) (n : ℕ) (b : Beside) (rs : List (Active A)) → going c n (beside_preceded before b) rs ≡ outcome_preceded before (going c n b rs)
  going_alike c zero b rs = no_step_alike b (live c rs)
  going_alike c (suc left) b rs = on_alike c left (going c left) (going_alike c left) b (live c rs)

  go_on_alike : {A : Type 0} (c : Control A) (n : ℕ) (w : Wait) (b : Beside) (rs : List (Active A)) → go_on c n w (beside_preceded before b) rs ≡ outcome_preceded before (go_on c n w b rs)
  go_on_alike c zero w b rs = no_step_alike b rs
  go_on_alike c (suc left) w b [] = going_alike c left b []
  go_on_alike c (suc left) w b (r ∷ rs) =
      let n = answered c.heads (c.pause r.module r.stop) w r.values b in
      ap (λ (m : Now). going c left m.beside (record r { values = m.values } ∷ rs)) (answered_after before c.heads (c.pause r.module r.stop) w r.values b)
      ∙ going_alike c left n.beside (record r { values = n.values } ∷ rs)

  pub run_preceded : (x : Prog) (t : Thread) (around : Around) (n : ℕ) → run_of x t (around_preceded before around) n ≡ outcome_preceded before (run_of x t around n)
  unfolding go
  run_preceded (Tree p) t around n = go_on_alike (tree p) n t.wait (beside t around) (actives_of (tree p) t)
  run_preceded (Code c) t around n = go_on_alike (code c) n t.wait (beside t around) (actives_of (code c) t)

-- ---- what is sent

-- acts, and then others
pub sent_append : (at : Place) (acts more : List Act) → sent_by at (acts ++ more) ≡ sent_by at acts ++ sent_by at more
sent_append at [] more = refl
sent_append at (act.Print t line ∷ acts) more = sent_append at acts more
sent_append at (act.Gen t event value ∷ acts) more = sent_append at acts more
sent_append at (act.Out t sent ∷ acts) more = ap (λ (l : List Sent). sent ∷ l) (sent_append at acts more)
sent_append at (act.End t end ∷ acts) more = ap (λ (l : List Sent). tell_end at t end ∷ l) (sent_append at acts more)

pub sent_preceded : (acts : List Act) (o : Outcome) → block_sent (outcome_preceded acts o) ≡ sent_by Unlinked acts ++ block_sent o
sent_preceded acts (Held t around left) = sent_append Unlinked acts around.acts
sent_preceded acts (Left t whither around left) =
    ap (λ (l : List Sent). l ++ record { to = whither; order = order.Arrive t } ∷ []) (sent_append Unlinked acts around.acts)
    ∙ append_assoc (sent_by Unlinked acts) (sent_by Unlinked around.acts) (record { to = whither; order = order.Arrive t } ∷ [])
sent_preceded acts (Ended end around left) = sent_append Unlinked acts around.acts

-- what a run sends that goes on after some acts: what they sent, and what it sends
pub going_sends : {A : Type 0} (c : Control A) (n : ℕ) (acts : List Act) (b : Beside) (rs : List (Active A)) → block_sent (going c n (beside_preceded acts b) rs) ≡ sent_by Unlinked acts ++ block_sent (going c n b rs)
going_sends c n acts b rs = ap block_sent (going_alike acts c n b rs) ∙ sent_preceded acts (going c n b rs)

-- the same of the acts that stand around a thread in the midst of its run
pub sends_apart : {A : Type 0} (c : Control A) (n : ℕ) (b : Beside) (rs : List (Active A))
    → block_sent (going c n b rs) ≡ sent_by Unlinked b.around.acts ++ block_sent (going c n (record b { around = record b.around { acts = [] } }) rs)
sends_apart c n b rs =
    ap (λ (acts : List Act). block_sent (going c n (record b { around = record b.around { acts = acts } }) rs)) (sym (append-nil b.around.acts))
    ∙ going_sends c n b.around.acts (record b { around = record b.around { acts = [] } }) rs
